-- A row that is typed with type variables is typed.
use Rattle.std.proofs.Common.{◌≡◌, ℕ, ◌⊎◌, inl, inr, List, [], ◌∷◌, ◌++◌, length, Option, Some, None, Bool, true, false, if◌then◌else◌, refl, sym, ap, ◌∙◌, subst, arith}
use Rattle.run_types.proofs.Instances.{chosen_own, exn_case, fits_nil, funs_written, gen_use, instances, ints, ints_fit, levels_app, levels_inner, mono_case, outer_puts, plain_realises, rule_binds, sub_opt, sub_types, upto_if, weaken}
use Rattle.run_types.proofs.Put.{binds_put, funs_closed}
use Rattle.run_types.proofs.Rowed.{row_ok}
use Rattle.run_types.specs.Safe.{GivensOk, Ok}
use Rattle.run_types.specs.TypedItems.{scope_has}
use Rattle.run_types.specs.Types.{Binds, Ctx, Fits, Has, HasFuns, HasItems, Holds, Kind, Mono, Puts, Scheme, ScopeTy, TInt, TNam, Ty, Types, Tys, UseAt, World, exn_ctx, inside_ty, join, joined, mono, monos, plain, reached_ty, sub, sub_all, vars_by, with_struct_ty}
use Rattle.run_types.specs.Written.{Chosen, Gen, Levels, Poly, Polys, ScopeLevels, ScopePoly, Upto, WrittenItems, at, exn_poly, gen, gens, inner, inside_poly, joined_poly, reached_poly, scope_at, seen_at, struct_poly}
use Rattle.runs.proofs.Close.{funs_empty, pat_empty}
use Rattle.runs.specs.Env.{binds, empty, names}
use Rattle.runs.specs.Items.{mean_items}
use Rattle.runs.specs.Names.{Name, Part, same, same_part}
use Rattle.runs.specs.Primitives.{St, body}
use Rattle.runs.specs.Scope.{Scope}
use Rattle.runs.specs.Tree.{Alias, Applied, End, Exception, Functions, FunctorOf, Items, Pat, Struct, Value}

-- outside all type variables
abbrev top : ℕ → Ty
top = λ i. TInt

top_chosen : Chosen [] top
top_chosen = record { keeps = λ i q. absurd (cc q); cut = λ i. refl }

-- d has the uses of g
abbrev Into : World → Polys → Ctx → Type 0
Into w g d = Puts w (at plain top g) d empty

abbrev IntoScope : World → ScopePoly → ScopeTy → Type 0
IntoScope w c d = Into w c.env d.env × Into w c.own d.own

into_case : (b : Bool) (o q : Option Poly) (r s : Option Scheme) (t : Ty) → (UseAt (seen_at plain top o) t → UseAt r t) → (UseAt (seen_at plain top q) t → UseAt s t) → UseAt (seen_at plain top (if b then o else q)) t → UseAt (if b then r else s) t
into_case true o q r s t e f u = e u
into_case false o q r s t e f u = f u

into_inner : (w : World) (bound : Name → Bool) (h g : Polys) (d : Ctx) → Into w g d → Into w (inner bound h g) (join bound (at plain top h) d)
into_inner w bound h g d p = λ x t u. into_case (bound x) (h x) (g x) (at plain top h x) (d x) t (λ v. v) (p x t) u

into_reached : (w : World) (p : Part) (b : Polys) (h : Ctx) (y : Name) (q : Option Poly) (s : Option Scheme) (t : Ty) → Into w b h → (UseAt (seen_at plain top q) t → UseAt s t) → UseAt (seen_at plain top (reached_poly p b y q)) t → UseAt (reached_ty p h y s) t
into_reached w p b h [] q s t i f u = f u
into_reached w p b h (x ∷ []) q s t i f u = f u
into_reached w p b h (x ∷ r ∷ z) q s t i f u = into_case (same_part p x) (b (r ∷ z)) q (h (r ∷ z)) s t (i (r ∷ z) t) f u

into_struct : (w : World) (p : Part) (b : Polys) (h : Ctx) (c : ScopePoly) (d : ScopeTy) → Into w b h → IntoScope w c d → IntoScope w (struct_poly p b c) (with_struct_ty p h d)
into_struct w p b h c d i k = ((λ y t u. into_reached w p b h y (c.env y) (d.env y) t i (k.0 y t) u), (λ y t u. into_reached w p b h y (c.own y) (d.own y) t i (k.1 y t) u))

into_joined : (w : World) (bound : Name → Bool) (h : Polys) (c : ScopePoly) (d : ScopeTy) → IntoScope w c d → IntoScope w (joined_poly bound h c) (joined bound (at plain top h) d)
into_joined w bound h c d p = (into_inner w bound h c.env d.env p.0, into_inner w bound h c.own d.own p.1)

into_exn : (b : Bool) (args : Tys) (q : Option Poly) (s : Option Scheme) (t : Ty) → (UseAt (seen_at plain top q) t → UseAt s t) → UseAt (seen_at plain top (if b then Some (Gen 0 [] (TNam args)) else q)) t → UseAt (if b then Some (Mono (TNam (sub_all top args))) else s) t
into_exn true args q s t f u = exn_case plain [] top true args q t top_chosen u
into_exn false args q s t f u = f u

binds_into : (w : World) (g : Polys) (d : Ctx) (A B : Ty → Type 0) → ((a : Ty) → A a → B a) → (p : Pat) (h : Ctx) → Into w g d → Binds w (at plain top g) A p h → Binds w d B p h
binds_into w g d A B f p h i b = subst (λ q. Binds w d B q h) (pat_empty p) (binds_put w (at plain top g) d empty A B f p h i b)

end_case : (o q : Option Poly) (s : Option Scheme) (t : Ty) → (o ≡ None) ⊎ (o ≡ q) → (UseAt (seen_at plain top q) t → UseAt s t) → UseAt (seen_at plain top o) t → UseAt s t
end_case o q s t (inl e) f u = absurd (subst (λ x. UseAt (seen_at plain top x) t) e u)
end_case o q s t (inr e) f u = f (subst (λ x. UseAt (seen_at plain top x) t) e u)

group_case : (w : World) (ks : List Kind) (us : Tys) (b : Bool) (o : Option Ty) (q : Option Poly) (s : Option Scheme) (t : Ty) → Fits ks us → Upto 0 q → (UseAt (seen_at plain top q) t → UseAt s t) → UseAt (seen_at plain (vars_by 0 top us) (if b then gen (length ks) [] o else q)) t → UseAt (if b then mono (sub_opt plain (vars_by 0 top us) o) else s) t
group_case w ks us true o q s t i l f u = mono_case plain [] ks top us true o q t (chosen_own [] ks top us top_chosen i) l u
group_case w ks us false o q s t i l f u = f (mono_case plain [] ks top us false o q t (chosen_own [] ks top us top_chosen i) l u)

upto_reached : (p : Part) (b : Polys) (y : Name) (q : Option Poly) → Levels 0 b → Upto 0 q → Upto 0 (reached_poly p b y q)
upto_reached p b [] q l h = h
upto_reached p b (x ∷ []) q l h = h
upto_reached p b (x ∷ r ∷ z) q l h = upto_if 0 (same_part p x) (b (r ∷ z)) q (l (r ∷ z)) h

levels_struct : (p : Part) (b : Polys) (c : ScopePoly) → Levels 0 b → ScopeLevels c → ScopeLevels (struct_poly p b c)
levels_struct p b c h l = ((λ y. upto_reached p b y (c.env y) h (l.0 y)), (λ y. upto_reached p b y (c.own y) h (l.1 y)))

levels_joined : (ks : List Kind) (bound : Name → Bool) (m : Types) (c : ScopePoly) → ScopeLevels c → ScopeLevels (joined_poly bound (gens 0 ks m) c)
levels_joined ks bound m c l = (levels_inner 0 ks bound m c.env l.0, levels_inner 0 ks bound m c.own l.1)

levels_exn : (x : Name) (ts : Tys) (c : ScopePoly) → ScopeLevels c → ScopeLevels (joined_poly (same x) (exn_poly ts) c)
levels_exn x ts c l = ((λ y. upto_if 0 (same x y) (Some (Gen 0 [] (TNam ts))) (c.env y) (omega arith) (l.0 y)), (λ y. upto_if 0 (same x y) (Some (Gen 0 [] (TNam ts))) (c.own y) (omega arith) (l.1 y)))

-- a further row may follow
level_case : (o q : Option Poly) → (o ≡ None) ⊎ (o ≡ q) → Upto 0 q → Upto 0 o
level_case o q (inl e) l = subst (Upto 0) (sym e) tt
level_case o q (inr e) l = subst (Upto 0) (sym e) l

pub levels_row : (is : Items) (w : World) (c e : ScopePoly) → ScopeLevels c → WrittenItems w c is e → ScopeLevels e
levels_row End w c e l t = ((λ x. level_case (e.env x) (c.env x) (t.0 x) (l.0 x)), (λ x. level_case (e.own x) (c.own x) (t.1 x) (l.1 x)))
levels_row (Value f q a is) w c e l (hf, ks, u, ha, s, m, pl, hp, t) = levels_row is w (joined_poly (binds q) (gens 0 ks m) c) e (levels_joined ks (binds q) m c l) t
levels_row (Functions fs is) w c e l (ks, m, hf, t) = levels_row is w (joined_poly (names fs) (gens 0 ks m) c) e (levels_joined ks (names fs) m c l) t
levels_row (Exception x is) w c e l t = levels_row is w (joined_poly (same x) (exn_poly t.0) c) e (levels_exn x t.0 c l) t.1
levels_row (Alias p x is) w c e l t = levels_row is w (struct_poly p (λ y. c.env (x ++ y)) c) e (levels_struct p (λ y. c.env (x ++ y)) c (λ y. l.0 (x ++ y)) l) t
levels_row (FunctorOf f x body is) w c e l t = absurd t
levels_row (Applied p f a is) w c e l t = absurd t
levels_row (Struct p body is) w c e l t =
    let lb = levels_row body w (inside_poly c) t.0 (l.0, λ y. tt) t.1 in
    levels_row is w (struct_poly p (t.0).own c) e (levels_struct p (t.0).own c lb.1 l) t.2

pub items_written : (is : Items) (w : World) (c e : ScopePoly) (d : ScopeTy) → ScopeLevels c → IntoScope w c d → WrittenItems w c is e → HasItems w d is (scope_at e)
items_written End w c e d l p t = ((λ x u k. end_case (e.env x) (c.env x) (d.env x) u (t.0 x) (p.0 x u) k), (λ x u k. end_case (e.own x) (c.own x) (d.own x) u (t.1 x) (p.1 x u) k))
items_written (Value f q a is) w c e d l p (hf, ks, u, ha, inl x, m, pl, hp, t) =
    let g = c.env in
    let us0 = ints ks in
    let u0 = sub (vars_by 0 top us0) u in
    let a0 = weaken w (at plain (vars_by 0 top us0) g) (at plain top g) a u0 (outer_puts plain w 0 top us0 g l.0) (instances a w w plain (plain_realises w) ks g u (vars_by 0 top us0) (chosen_own [] ks top us0 top_chosen (ints_fit ks)) (levels_app [] ks g l.0) ha) in (
      hf,
      u0,
      weaken w (at plain top g) d.env a u0 p.0 a0,
      at plain top (gens 0 ks m),
      inl (binds_into w g d.env (λ a1. a1 ≡ u0) (λ a1. a1 ≡ u0) (λ a1 k. k) q (at plain top (gens 0 ks m)) p.0 (rule_binds w w plain (plain_realises w) [] g ks u top (λ a1. a1 ≡ u0) q m l.0 pl hp (λ us i. ap (λ vs. sub (vars_by 0 top vs) u) (fits_nil ks us x i ∙ sym (fits_nil ks us0 x (ints_fit ks)))))),
      items_written is w (joined_poly (binds q) (gens 0 ks m) c) e (joined (binds q) (at plain top (gens 0 ks m)) d) (levels_joined ks (binds q) m c l) (into_joined w (binds q) (gens 0 ks m) c d p) t,
    )
items_written (Value f q a is) w c e d l p (hf, ks, u, ha, inr st, m, pl, hp, t) =
    let g = c.env in
    let us0 = ints ks in
    let each : (us : Tys) → Fits ks us → Has w (at plain top g) a (sub (vars_by 0 top us) u) = λ us i. weaken w (at plain (vars_by 0 top us) g) (at plain top g) a (sub (vars_by 0 top us) u) (outer_puts plain w 0 top us g l.0) (instances a w w plain (plain_realises w) ks g u (vars_by 0 top us) (chosen_own [] ks top us top_chosen i) (levels_app [] ks g l.0) ha) in (
      hf,
      sub (vars_by 0 top us0) u,
      weaken w (at plain top g) d.env a (sub (vars_by 0 top us0) u) p.0 (each us0 (ints_fit ks)),
      at plain top (gens 0 ks m),
      inr (st, binds_into w g d.env (λ a1. Has w (at plain top g) a a1) (λ a1. Has w d.env a a1) (λ a1 k. weaken w (at plain top g) d.env a a1 p.0 k) q (at plain top (gens 0 ks m)) p.0 (rule_binds w w plain (plain_realises w) [] g ks u top (λ a1. Has w (at plain top g) a a1) q m l.0 pl hp each)),
      items_written is w (joined_poly (binds q) (gens 0 ks m) c) e (joined (binds q) (at plain top (gens 0 ks m)) d) (levels_joined ks (binds q) m c l) (into_joined w (binds q) (gens 0 ks m) c d p) t,
    )
items_written (Functions fs is) w c e d l p (ks, m, hf, t) = (
  at plain top (gens 0 ks m),
  (λ x v i o.
      let g = c.env in
      let n = gen_use plain 0 ks top (m x) v o in
      let f1 = vars_by 0 top n.0 in
      let g1 = inner (names fs) (gens (length ks) [] m) g in (
        sub_types plain f1 m,
        n.2,
        subst (λ q. HasFuns w (join (names fs) (monos (sub_types plain f1 m)) d.env) q (sub_types plain f1 m)) (funs_empty fs)
            (funs_closed w fs (at plain f1 g1) (join (names fs) (monos (sub_types plain f1 m)) d.env) empty (sub_types plain f1 m) (λ y u k. group_case w ks n.0 (names fs y) (m y) (g y) (d.env y) u n.1 (l.0 y) (p.0 y u) k)
            (funs_written (Unit {0}) fs w w plain (plain_realises w) ks g1 m f1 (chosen_own [] ks top n.0 top_chosen n.1) (levels_inner (length ks) [] (names fs) m g (levels_app [] ks g l.0)) hf)),
      )),
  items_written is w (joined_poly (names fs) (gens 0 ks m) c) e (joined (names fs) (at plain top (gens 0 ks m)) d) (levels_joined ks (names fs) m c l) (into_joined w (names fs) (gens 0 ks m) c d p) t,
)
items_written (Exception x is) w c e d l p t = (
  sub_all top t.0,
  items_written is w (joined_poly (same x) (exn_poly t.0) c) e (joined (same x) (exn_ctx (sub_all top t.0)) d) (levels_exn x t.0 c l)
      ((λ y u k. into_exn (same x y) t.0 (c.env y) (d.env y) u (p.0 y u) k), (λ y u k. into_exn (same x y) t.0 (c.own y) (d.own y) u (p.1 y u) k)) t.1,
)
items_written (Alias q x is) w c e d l p t =
    items_written is w (struct_poly q (λ y. c.env (x ++ y)) c) e (with_struct_ty q (λ y. d.env (x ++ y)) d) (levels_struct q (λ y. c.env (x ++ y)) c (λ y. l.0 (x ++ y)) l)
    (into_struct w q (λ y. c.env (x ++ y)) (λ y. d.env (x ++ y)) c d (λ y. p.0 (x ++ y)) p) t
items_written (FunctorOf f x body is) w c e d l p t = absurd t
items_written (Applied q f a is) w c e d l p t = absurd t
items_written (Struct q body is) w c e d l p t = (
  scope_at t.0,
  items_written body w (inside_poly c) t.0 (inside_ty d) (l.0, λ y. tt) (p.0, λ x u h. h) t.1,
  let lb = levels_row body w (inside_poly c) t.0 (l.0, λ y. tt) t.1 in
      items_written is w (struct_poly q (t.0).own c) e (with_struct_ty q (at plain top (t.0).own) d) (levels_struct q (t.0).own c lb.1 l)
      (into_struct w q (t.0).own (at plain top (t.0).own) c d (λ x u h. h) p) t.2,
)

-- so it ends well, and a further row may follow
pub written_row_ok : (n : ℕ) (is : Items) (w : World) (c e : ScopePoly) (v : Scope) (s : St) → GivensOk w.givens → ScopeLevels c → scope_has (scope_at c) w v → WrittenItems w c is e → Holds w s → ScopeLevels e × Ok (scope_has (scope_at e)) w (mean_items n v is s)
written_row_ok n is w c e v s gl l p t hm = (levels_row is w c e l t, row_ok n is w (scope_at c) (scope_at e) v s gl p (items_written is w c e (scope_at c) l ((λ x u k. k), (λ x u k. k)) t) hm)
