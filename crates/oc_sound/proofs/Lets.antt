-- What a `let` binds: schemes for what only makes its value, and else one type for each variable.
use Rattle.std.proofs.Common.{◌≡◌, ◌⊎◌, ℕ, zero, suc, ◌+◌, ◌<◌, ◌≤◌, inl, inr, List, [], ◌∷◌, Some, Bool, true, false, if◌then◌else◌, refl, sym, ap, ◌∙◌, subst, arith}
use Rattle.oc_ast.specs.Plain.{Bytes, PPat}
use Rattle.oc_typing.specs.Ty as oc
use Rattle.oc_typing.specs.Ty.{IsClosed, IsInjective, Ty, inst}
use Rattle.oc_typing.specs.Env.{Env}
use Rattle.oc_typing.specs.Variables.{Differ, NoVars, OneVar, Vars, VarsClosed, inst_vars}
use Rattle.oc_typing.specs.Patterns.{PatTypes}
use Rattle.oc_typing.specs.OcTypes.{LetBinds}
use Rattle.oc_steps.specs.Known.{Known}
use Rattle.oc_steps.specs.View.{pat_tree}
use Rattle.run_types.specs.Types as run
use Rattle.run_types.specs.Types.{All, AnyTy, Binds, ConsT, Ctx, Fits, Has, Kind, NilT, Scheme, TVar, Types, UseAt, World, monos, nth, plain, real, vars_by}
use Rattle.runs.specs.Env as tree_env
use Rattle.runs.specs.Forms.{var}
use Rattle.runs.specs.Names.{Name, same}
use Rattle.runs.specs.Ordered.{Still}
use Rattle.runs.specs.Tree as tree
use Rattle.oc_sound.proofs.Meanings.{SameBelow, first_row, meant_inst, meant_same, own_bound, real_meant, scheme_bound}
use Rattle.oc_sound.proofs.Names.{AllSmall, IsBound, assoc, assoc_bound, assoc_inst, bound_in, closed_vars, inst_bound, inst_differ, small_inst}
use Rattle.oc_sound.proofs.Patterns.{gives_own, mono_binds, mono_serve, pat_binds, pat_has, pat_small}
use Rattle.oc_sound.proofs.Serving.{VarsServe, env_bound, place_change}
use Rattle.oc_sound.specs.Meant.{meant}
use Rattle.oc_sound.specs.Secure.{PatSmallNames}
use Rattle.oc_sound.specs.Served.{Place, row_of}

-- ---- a choice of types: the first n by f, and the next ones from a list

abbrev pub chosen : ℕ → (ℕ → run.Ty) → run.Tys → ℕ → run.Ty
chosen n f us = λ i. vars_by n f us i

chosen_below : (n : ℕ) (f : ℕ → run.Ty) (us : run.Tys) (i : ℕ) → i < n → f i ≡ vars_by n f us i
chosen_below zero f us i l = absurd (omega (arith, l))
chosen_below (suc n) f us zero l = refl
chosen_below (suc n) f us (suc i) l = chosen_below n (λ j. f (suc j)) us i (omega (arith, l))

chosen_above : (n : ℕ) (f : ℕ → run.Ty) (us : run.Tys) (j : ℕ) → vars_by n f us (n + j) ≡ nth j us
chosen_above zero f us j = ap (λ i. nth i us) (zero_plus j)
  where
    zero_plus : (i : ℕ) → 0 + i ≡ i
    zero_plus i = omega arith
chosen_above (suc n) f us j = ap (vars_by (suc n) f us) (suc_plus n j) ∙ chosen_above n (λ i. f (suc i)) us j
  where
    suc_plus : (m i : ℕ) → suc m + i ≡ suc (m + i)
    suc_plus m i = omega arith

-- new variables, from n on
abbrev pub new_vars : ℕ → ℕ → Ty
new_vars n = λ j. oc.Var (n + j)

pub new_injective : (n : ℕ) → IsInjective (λ j. n + j)
new_injective n = record { same = λ i j e. from n i j e }
  where
    from : (m i j : ℕ) → m + i ≡ m + j → i ≡ j
    from m i j e = omega (arith, e)

-- ---- schemes

abbrev pub anys : ℕ → List Kind
anys zero = []
anys (suc n) = AnyTy ∷ anys n

any_fits : (n i : ℕ) (b : ℕ → run.Ty) → Fits (anys n) (row_of n i b)
any_fits zero i b = tt
any_fits (suc n) i b = any_fits n (suc i) b

abbrev pub scheme_of : ℕ → (ℕ → run.Ty) → Ty → Scheme
scheme_of n f t = All n plain f (anys (scheme_bound t)) (meant TVar TVar (inst (new_vars n) t))

abbrev pub schemes : ℕ → (ℕ → run.Ty) → Vars → Ctx
schemes n f bs = assoc (scheme_of n f) bs

-- a use of a scheme is the type at a choice
pub scheme_use : (n : ℕ) (f : ℕ → run.Ty) (bs : Vars) (q : Name) (v : run.Ty) → UseAt (schemes n f bs q) v → (us : run.Tys) × (assoc (λ t. meant (chosen n f us) (chosen n f us) (inst (new_vars n) t)) bs q ≡ Some v)
scheme_use n f NoVars q v h = absurd h
scheme_use n f (OneVar x t bs) q v h = by (same (var x) q) h (scheme_use n f bs q v)
  where
    by : (c : Bool) → UseAt (if c then Some (scheme_of n f t) else schemes n f bs q) v
        → (UseAt (schemes n f bs q) v → (us : run.Tys) × (assoc (λ s. meant (chosen n f us) (chosen n f us) (inst (new_vars n) s)) bs q ≡ Some v))
        → (us : run.Tys) × ((if c then Some (meant (chosen n f us) (chosen n f us) (inst (new_vars n) t)) else assoc (λ s. meant (chosen n f us) (chosen n f us) (inst (new_vars n) s)) bs q) ≡ Some v)
    by true u r = (u.0, ap Some (sym (u.2 ∙ real_meant (chosen n f u.0) TVar TVar (inst (new_vars n) t))))
    by false u r = r u

-- the variables that stand for themselves, in all types
abbrev pub vars_bound : Vars → ℕ
vars_bound NoVars = 0
vars_bound (OneVar x t bs) = own_bound t + vars_bound bs

bound_below : (bs : Vars) (y : Bytes) (t : Ty) → IsBound y t bs → own_bound t ≤ vars_bound bs
bound_below NoVars y t h = absurd h
bound_below (OneVar x u bs) y t (inl h) = subst (λ v. own_bound v ≤ own_bound u + vars_bound bs) (sym h.1) (first (own_bound u) (vars_bound bs))
  where
    first : (m n : ℕ) → m ≤ m + n
    first m n = omega arith
bound_below (OneVar x u bs) y t (inr h) = more (own_bound t) (own_bound u) (vars_bound bs) (bound_below bs y t h)
  where
    more : (k m n : ℕ) → k ≤ n → k ≤ m + n
    more k m n l = omega (arith, l)

-- the scheme has the type at each choice for what it binds
scheme_at : (n : ℕ) (f b : ℕ → run.Ty) (t : Ty) → own_bound t ≤ n → UseAt (Some (scheme_of n f t)) (meant f b t)
scheme_at n f b t l =
    let m = scheme_bound t in
    let us = row_of m 0 b in
    let h = chosen n f us in (
      us,
      any_fits m 0 b,
      meant_same f h b (λ j. h (n + j)) t (λ i k. chosen_below n f us i (omega (arith, l, k))) (λ j k. first_row m b j k ∙ sym (chosen_above n f us j))
          ∙ (sym (meant_inst h h (new_vars n) t) ∙ sym (real_meant h TVar TVar (inst (new_vars n) t))),
    )

pub schemes_serve : (n : ℕ) (f : ℕ → run.Ty) (bs : Vars) → vars_bound bs ≤ n → Differ bs → VarsServe f bs (schemes n f bs)
schemes_serve n f bs l d = λ y t i b. subst (λ o. UseAt o (meant f b t)) (sym (assoc_bound (scheme_of n f) bs y t d i)) (scheme_at n f b t (below (own_bound t) (vars_bound bs) n (bound_below bs y t i) l))
  where
    below : (i j m : ℕ) → i ≤ j → j ≤ m → i ≤ m
    below i j m h k = omega (arith, h, k)

-- ---- a `let`

pub record LetTyped (w : World) (x : Ctx) (f : ℕ → run.Ty) (p : tree.Pat) (e : tree.Exp) (bs : Vars) : Type 0 where
  pub type : run.Ty
  pub has : Has w x e type
  pub own : Ctx
  pub binds : Binds w x (λ a. a ≡ type) p own ⊎ (Still e × Binds w x (λ a. Has w x e a) p own)
  pub serve : VarsServe f bs own
  pub bound : (q : Name) → tree_env.binds p q ≡ bound_in bs q
  pub small : AllSmall bs

-- the variables of the environment are below the new ones
pub same_chosen : (m n : ℕ) (f : ℕ → run.Ty) (us : run.Tys) → m ≤ n → SameBelow m f (chosen n f us)
same_chosen m n f us l = λ i k. chosen_below n f us i (omega (arith, l, k))

pub let_typed : (w : World) (k : Known) (g : Env) (f : ℕ → run.Ty) (x : Ctx) → Place w k g f x → (p : PPat) (e : tree.Exp) (bs : Vars) (G : Type 0) (T : Ty → Type 0) → PatSmallNames p → (G → Still e) → ((h : ℕ → run.Ty) → Place w k g h x → (t : Ty) → T t → Has w x e (meant h h t)) → LetBinds g p G T bs → LetTyped w x f (pat_tree k p) e bs
let_typed w k g f x pl p e bs G T sm st each r = by r.1
  where
    n : ℕ
    n = r.2.0 + (env_bound g + vars_bound bs)

    above : (i j l : ℕ) → i ≤ i + l + j
    above i j l = omega arith

    mid : (i j l : ℕ) → j ≤ i + (j + l)
    mid i j l = omega arith

    last : (i j l : ℕ) → l ≤ i + (j + l)
    last i j l = omega arith

    w0 : T (inst (new_vars n) r.0) × PatTypes g p (inst (new_vars n) r.0) (inst_vars (new_vars n) bs)
    w0 = r.2.1 (λ j. n + j) (new_injective n) (λ i. above r.2.0 i (env_bound g + vars_bound bs))

    u : Ty
    u = inst (new_vars n) r.0

    cs : Vars
    cs = inst_vars (new_vars n) bs

    diff : Differ cs
    diff = inst_differ (new_vars n) bs r.3

    types : (ℕ → run.Ty) → Types
    types h = assoc (meant h h) cs

    pat : (h : ℕ → run.Ty) → Place w k g h x → run.HasPat w x (pat_tree k p) (meant h h u) (types h)
    pat h pl1 = pat_has w k g h x h (types h) pl1 p u cs w0.1 (gives_own h h cs diff)

    bound : (q : Name) → tree_env.binds (pat_tree k p) q ≡ bound_in bs q
    bound q = pat_binds k g p u cs w0.1 q ∙ inst_bound (new_vars n) bs q

    small : AllSmall bs
    small = small_inst (new_vars n) bs (pat_small g p u cs w0.1 sm)

    at : (us : run.Tys) → Place w k g (chosen n f us) x
    at us = place_change w k g f (chosen n f us) x (same_chosen (env_bound g) n f us (mid r.2.0 (env_bound g) (vars_bound bs))) pl

    by : (G ⊎ (IsClosed r.0 × VarsClosed bs)) → LetTyped w x f (pat_tree k p) e bs
    by (inl q) =
        record {
          type = meant f f u;
          has = each f pl u w0.0;
          own = schemes n f bs;
          binds = inr (
            st q,
            (
              (meant f f u, types f, each f pl u w0.0, pat f pl),
              λ y v i o.
                  let m = scheme_use n f bs y v o in
                  let h = chosen n f m.0 in
                  (meant h h u, types h, each h (at m.0) u w0.0, pat h (at m.0), assoc_inst (meant h h) (new_vars n) bs y ∙ m.1),
            ),
          );
          serve = schemes_serve n f bs (last r.2.0 (env_bound g) (vars_bound bs)) r.3;
          bound = bound;
          small = small;
        }
    by (inr q) =
        record {
          type = meant f f u;
          has = each f pl u w0.0;
          own = monos (types f);
          binds = inl (mono_binds w x (pat_tree k p) (meant f f u) (types f) (pat f pl));
          serve = subst (λ v. VarsServe f bs (monos (assoc (meant f f) v))) (sym (closed_vars (new_vars n) bs q.1)) (mono_serve f f bs q.1 r.3);
          bound = bound;
          small = small;
        }
