-- A typed and secure text never comes where there is no rule, so it runs as it means.
use Rattle.std.proofs.Common.{◌≡◌, ◌⊎◌, ℕ, zero, suc, ◌≤◌, inl, inr, [], ◌∷◌, Option, Some, None, Bool, true, false, if◌then◌else◌, refl, sym, ap, ◌∙◌, subst, arith}
use Rattle.std.specs.Prelude.{codes}
use Rattle.std.specs.Str.{bytes_eq}
use Rattle.oc_ast.specs.Plain.{Bytes, Long, PItems}
use Rattle.oc_typing.specs.Ty.{Arrow, Bound, Ty, bool, char, exn, first_stamp, int, list, ref, string, unit}
use Rattle.oc_typing.specs.Env.{AddCon, AddVal, ConTy, Env, Empty, con_at, val_at}
use Rattle.oc_typing.specs.Variables.{NoVars, OneVar}
use Rattle.oc_typing.specs.OcTypes.{ItemsBind, raises}
use Rattle.oc_typing.specs.OcText.{OcText, constant, plain_type, predefined_types}
use Rattle.oc_typing.specs.More.{after}
use Rattle.oc_steps.specs.Known as known
use Rattle.oc_steps.specs.Known.{Builds, Nobody, at_first, items_know}
use Rattle.oc_steps.specs.OcSteps.{Agrees, NeverWrong, evaluated, meaning}
use Rattle.oc_steps.specs.Ordered.{Ordered}
use Rattle.oc_steps.specs.View.{items_tree}
use Rattle.oc_steps.proofs.Texts.{evaluated_after, text_agrees}
use Rattle.run_types.specs.Basic.{Basic, basic_world, text_types, with_basics}
use Rattle.run_types.specs.TypedItems.{scope_has}
use Rattle.run_types.specs.Types as run
use Rattle.run_types.specs.Types.{AnyTy, ConsT, Ctx, Holds, Mono, NilT, Scheme, TArr, TNam, UseAt, World, join}
use Rattle.run_types.proofs.Basics.{basic_holds, basic_is_basic, no_givens_ok, text_has}
use Rattle.run_types.proofs.Rowed.{row_ok}
use Rattle.run_types.proofs.Sound.{ok_right}
use Rattle.runs.specs.Forms.{text_scope, var}
use Rattle.runs.specs.Items.{mean_items}
use Rattle.runs.specs.Meaning.{Done, Right, ev_items, mean, then_do}
use Rattle.runs.specs.Names.{last_part, same}
use Rattle.runs.specs.Primitives.{St, cons_part, false_part, nil_part, start, true_part}
use Rattle.runs.specs.Scope.{Scope}
use Rattle.oc_sound.proofs.Cleared.{clear_totally}
use Rattle.oc_sound.proofs.Names.{or_none, some_is, true_false}
use Rattle.oc_sound.proofs.Serving.{not_truth, serves_empty, serves_put}
use Rattle.oc_sound.proofs.Typed.{row_good}
use Rattle.oc_sound.specs.Meant.{meant}
use Rattle.oc_sound.specs.Rows.{ClosedTable, Includes, NeverWrongBehind, RowEndsWell, Table}
use Rattle.oc_sound.specs.Secure.{Secure, SecureItems}
use Rattle.oc_sound.specs.Words.{Variants, capital}
use Rattle.oc_sound.specs.Served.{Closed, EntryFits, Fits, IsCon, NoneItself, Serves, written_tys}
use Rattle.oc_sound.proofs.Total.{total}

-- ---- a row of items in any place

pub row_ends_well : (vs : Variants) (c e : ℕ) (g d : Env) (is : PItems) → first_stamp ≤ c → SecureItems vs true is → ItemsBind c g is e d → (T : Table) × ClosedTable vs T × RowEndsWell vs c e T g is d
row_ends_well vs c e g d is l s r =
    let t = row_good vs true c g is e d l s r in
    (t.0, t.1, λ w q cl i k h aw. let p = t.2 w q cl i k h aw in (p.0, λ f o v u m gl sg so hv hm. let b = p.1 f o v sg so in (b.0, b.2, b.3, λ n. row_ok n (items_tree k is) w v b.0 u m gl hv b.1 hm)))

-- ---- where a text begins

new_data : (more : ℕ → Bool → Bytes → Option run.Tys) (s : ℕ) (n : Bytes) → first_stamp ≤ s → with_basics more s true n ≡ more s true n
new_data more zero n l = absurd (omega (arith, l))
new_data more (suc zero) n l = absurd (omega (arith, l))
new_data more (suc (suc s)) n l = refl

-- the world that has the constructors of a table
abbrev world_of : Table → World
world_of T = basic_world (λ d b n. T d n) []

included : (T : Table) (c e : ℕ) → first_stamp ≤ c → Includes c e T (world_of T)
included T c e l = λ s n args h k q. new_data (λ d b m. T d m) s n (omega (arith, l, h)) ∙ q

-- and no others
world_closed : (vs : Variants) (T : Table) → ClosedTable vs T → Closed vs (world_of T)
world_closed vs T f zero n args e c = absurd (by ((basic_is_basic (λ d b m. T d m) []).only_bools n args e).1)
  where
    by : (n ≡ true_part) ⊎ (n ≡ false_part) → ⊥
    by (inl q) = true_false (capital n) c (ap capital q)
    by (inr q) = true_false (capital n) c (ap capital q)
world_closed vs T f (suc zero) n args e c = absurd (by ((basic_is_basic (λ d b m. T d m) []).only_lists n args e))
  where
    by : ((n ≡ nil_part) × (args ≡ NilT)) ⊎ ((n ≡ cons_part) × (args ≡ ConsT (run.TVar 0) (ConsT (run.list_ty (run.TVar 0)) NilT))) → ⊥
    by (inl q) = true_false (capital n) c (ap capital q.0)
    by (inr q) = true_false (capital n) c (ap capital q.0)
world_closed vs T f (suc (suc d)) n args e c = f (suc (suc d)) n args e

truth_con : (w : World) (x : Bytes) → w.datas 0 true x ≡ Some NilT → IsCon w x (constant bool)
truth_con w x e = (0, 0, (λ f b. refl), tt, e)

-- a type without constructors
bare : (w : World) (n : ℕ) (t : Ty) → NoneItself t → EntryFits w (plain_type n t)
bare w n t h = (h, λ m a i. absurd i)

total_fits : (w : World) → Basic w → Fits w at_first total
total_fits w q = (
  Builds (codes "false") Nobody,
  (
    Nobody,
    (
      bare w 0 int tt,
      (bare w 0 char tt, (bare w 0 string tt, (bare w 0 bool tt, (bare w 0 unit tt, (bare w 0 exn tt, (bare w 1 (list (Bound 0)) (tt, tt), (bare w 1 (ref (Bound 0)) (tt, tt), refl))))))),
    ),
    inr (refl, truth_con w (codes "false") (q.bools).1),
  ),
  inr (refl, truth_con w (codes "true") (q.bools).0),
)

-- the constructors alone
abbrev truths : Env
truths = AddCon (codes "true") (constant bool) (AddCon (codes "false") (constant bool) predefined_types)

truths_serve : (f : ℕ → run.Ty) (x : Ctx) → Serves f truths x
truths_serve f x = record { vals = vals; exns = exns; small = small; large = large }
  where
    vals : (q : Long) (u : Ty) → val_at q truths ≡ Some u → (b : ℕ → run.Ty) → UseAt (x q) (meant f b u)
    vals [] u e b = absurd (cc e)
    vals (y ∷ []) u e b = absurd (cc e)
    vals (m ∷ y ∷ q) u e b = absurd (cc e)

    one : (b c : Bool) (d : ConTy) → (if b then Some (constant bool) else (if c then Some (constant bool) else None)) ≡ Some d → d ≡ constant bool
    one true c d e = sym (some_is (constant bool) d e)
    one false true d e = sym (some_is (constant bool) d e)
    one false false d e = absurd (cc e)

    exns : (q : Long) (a : Option Ty) → con_at q truths ≡ Some (raises a) → UseAt (x q) (TNam (written_tys a))
    exns [] a e = absurd (cc e)
    exns (y ∷ []) a e = absurd (not_truth a (one (bytes_eq y (codes "true")) (bytes_eq y (codes "false")) (raises a) e))
    exns (m ∷ y ∷ q) a e = absurd (cc e)

    small : (q : Long) (u : Ty) → val_at q truths ≡ Some u → capital (last_part q) ≡ false
    small [] u e = absurd (cc e)
    small (y ∷ []) u e = absurd (cc e)
    small (m ∷ y ∷ q) u e = absurd (cc e)

    large : (q : Long) (c : ConTy) → con_at q truths ≡ Some c → (capital (last_part q) ≡ true) ⊎ (c ≡ constant bool)
    large [] c e = absurd (cc e)
    large (y ∷ []) c e = inr (one (bytes_eq y (codes "true")) (bytes_eq y (codes "false")) c e)
    large (m ∷ y ∷ q) c e = absurd (cc e)

serves_val : (f : ℕ → run.Ty) (g : Env) (x : Ctx) (n : Bytes) (u : Ty) (s : Scheme) → capital n ≡ false → ((b : ℕ → run.Ty) → UseAt (Some s) (meant f b u)) → Serves f g x → Serves f (AddVal n u g) (join (same (var n)) (λ y. Some s) x)
serves_val f g x n u s k h m =
    serves_put f g x (λ y. Some s) (OneVar n u NoVars) (same (var n)) m (λ q. sym (or_none (same (var n) q))) (k, tt) each
  where
    each : (y : Bytes) (t : Ty) → ((bytes_eq y n ≡ true) × (t ≡ u)) ⊎ ⊥ → (b : ℕ → run.Ty) → UseAt (Some s) (meant f b t)
    each y t (inl i) b = subst (λ v. UseAt (Some s) (meant f b v)) (sym i.1) (h b)
    each y t (inr i) b = absurd i

total_serves : (f : ℕ → run.Ty) → Serves f total (text_types).env
total_serves f =
    serves_val f _ _ (codes "ref") (Arrow (Bound 0) (ref (Bound 0))) _ refl (λ b. (ConsT (b 0) NilT, tt, refl))
    (serves_val f _ _ (codes "!") (Arrow (ref (Bound 0)) (Bound 0)) _ refl (λ b. (ConsT (b 0) NilT, tt, refl))
    (serves_val f _ _ (codes "raise") (Arrow exn (Bound 0)) _ refl (λ b. (ConsT (b 0) NilT, tt, refl))
    (serves_val f _ _ (codes "not") (Arrow bool bool) _ refl (λ b. refl)
    (serves_val f _ _ (codes "print_string") (Arrow string unit) _ refl (λ b. refl)
    (serves_val f _ _ (codes "string_of_int") (Arrow int string) _ refl (λ b. refl) (truths_serve f _))))))

pub never_wrong : (text : PItems) (d : Env) → OcText text d → Secure text → NeverWrong text
never_wrong text d types s n =
    let r = clear_totally text d types s.2 in
    let t = row_ends_well s.0 first_stamp r.0 total d text (omega arith) s.1 r.1 in
    let w = world_of t.0 in
    let q = basic_is_basic (λ c b m. t.0 c m) [] in
    let p = t.2 w q (world_closed s.0 t.0 t.1) (included t.0 first_stamp r.0 (omega arith)) at_first (total_fits w q) tt in
    let m = p.1 (λ i. run.TInt) Empty text_types text_scope start no_givens_ok (total_serves (λ i. run.TInt)) (serves_empty (λ i. run.TInt)) (text_has w q.bools) (basic_holds (λ c b x. t.0 c x) []) in
    ok_right (scope_has m.0) w (mean_items n text_scope (items_tree at_first text) start) (m.3 n)

-- ---- a row behind one that has ended

pub never_wrong_behind : (vs : Variants) (c e : ℕ) (g d : Env) (first rest : PItems) → first_stamp ≤ c → SecureItems vs true rest → ItemsBind c g rest e d → (T : Table) × ClosedTable vs T × NeverWrongBehind vs c e T g first rest
never_wrong_behind vs c e g d first rest l s r =
    let t = row_ends_well vs c e g d rest l s r in
    let k = known.over (items_know at_first first) at_first in
    (t.0, t.1, λ w q cl i gl h aw f o x v u sg so hv hm b. let m = (t.2 w q cl i k h aw).1 f o x v u gl sg so hv hm in behind first rest v u b (λ n. ok_right (scope_has m.0) w (mean_items n v (items_tree k rest) u) (m.3 n)))
  where
    behind : (is js : PItems) (v : Scope) (u : St) → ((n : ℕ) → evaluated is (suc n) ≡ Done v u) → ((n : ℕ) → Right (mean_items n v (items_tree (known.over (items_know at_first is) at_first) js) u)) → NeverWrong (after is js)
    behind is js v u b h zero = tt
    behind is js v u b h (suc n) =
        subst Right (sym (evaluated_after (mean n) at_first is js text_scope start ∙ ap (λ z. then_do z (λ y t. ev_items (mean n) y (items_tree (known.over (items_know at_first is) at_first) js) t)) (b n))) (h (suc n))

pub runs_as_it_means : (text : PItems) (d : Env) → OcText text d → Secure text → Ordered text → Agrees (meaning text) text
runs_as_it_means text d r s o = text_agrees text o (never_wrong text d r s)
