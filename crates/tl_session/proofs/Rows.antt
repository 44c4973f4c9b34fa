-- The declarations of sources and of a probe are evaluated as their text is, one after another.
use Rattle.std.proofs.Common.{◌≡◌, ℕ, suc, ◌⊎◌, List, [], ◌∷◌, ◌++◌, Some, None, Bool, true, false, if◌then◌else◌, refl, sym, ◌∙◌, ap, subst, inl, inr}
use Rattle.std.specs.Str.{bytes_eq}
use Rattle.std.proofs.lemmas.Slice.Eq.{bytes_eq-Decides}
use Rattle.runs.specs.Tree as run
use Rattle.runs.specs.Env as text
use Rattle.runs.specs.Names.{same_part}
use Rattle.runs.specs.Items.{Scope, with_vars, ev_items}
use Rattle.runs.specs.Primitives as prims
use Rattle.runs.specs.Meaning as mean
use Rattle.tl_session.specs.Program.{Exp, Pat, Var, Dec}
use Rattle.tl_session.specs.Meaning.{Val, State, Env, Res, Done, Deep, Wrong, then_do, eval, matched, run as run_decs, bound}
use Rattle.tl_session.specs.Static as sml
use Rattle.tl_session.specs.Runs.{simple_tree, items_run}
use Rattle.tl_session.specs.Probe.{IsProbe, plain, plain_items, with_name, home_in, homes_in}
use Rattle.tl_session.proofs.UnitNames.{bytes_same}
use Rattle.tl_session.proofs.Values.{img, HasVal, Related, same_part-bytes_eq}
use Rattle.tl_session.proofs.Evaluates.{Does, does}

-- both sides come to their ends, with the same output
pub record Ran (n : ℕ) (ds : List Dec) (is : run.Items) (env : Env) (c : Scope) (st : State) (s : prims.St) : Type 0 where
  pub env_after : Env
  pub st_after : State
  pub scope_after : Scope
  pub s_after : prims.St
  pub source : run_decs env ds st ≡ Done env_after st_after
  pub text : ev_items (mean.mean (suc n)) c is s ≡ mean.Done scope_after s_after
  pub same_output : st_after.output ≡ s_after.out

-- values of names of one part do not hide those at homes in structures
pub one_part : (p m x : List ℕ) (v : run.Val) (e : text.Env) → text.over (text.put (p ∷ []) v text.empty) e (m ∷ x ∷ []) ≡ e (m ∷ x ∷ [])
one_part p m x v e = by (same_part p m) where
  by : (b : Bool) → text.first (if (if b then false else false) then Some v else None) (e (m ∷ x ∷ [])) ≡ e (m ∷ x ∷ [])
  by true = refl
  by false = refl

-- the value of a name that was just bound
pub own_part : (p : List ℕ) (v : run.Val) (e : text.Env) → text.over (text.put (p ∷ []) v text.empty) e (p ∷ []) ≡ Some v
own_part p v e = rw (same_part-bytes_eq p p, bytes_same p)

-- the value of another name
pub other_part : (p x : List ℕ) (v : run.Val) (e : text.Env) → bytes_eq p x ≡ false → text.over (text.put (p ∷ []) v text.empty) e (x ∷ []) ≡ e (x ∷ [])
other_part p x v e other = rw (same_part-bytes_eq p x, other)

-- a home is a name, or a name in a structure
abbrev pub Shaped : sml.Basis → Type 0
Shaped basis = (x : List ℕ) (e : sml.Entry) → basis x ≡ Some e → (e.home ≡ x ∷ []) ⊎ ((m w : List ℕ) × (e.home ≡ m ∷ w ∷ []))

-- with a name of the probe
abbrev pub with_probe : List ℕ → sml.Ty → sml.Basis → sml.Basis
with_probe p t basis = sml.bound p (record { type = t; home = p ∷ [] }) basis

homes_probe : (p : List ℕ) (t : sml.Ty) (basis : sml.Basis) → homes_in (with_probe p t basis) ≡ with_name (Var p) (homes_in basis)
homes_probe p t basis = λ i x. by (bytes_eq p x) x i where
  by : (b : Bool) (x : List ℕ) → home_in (if b then Some (record { type = t; home = p ∷ [] }) else basis x) ≡ (if b then p ∷ [] else home_in (basis x))
  by true x = refl
  by false x = refl

shaped_probe : (p : List ℕ) (t : sml.Ty) (basis : sml.Basis) → Shaped basis → Shaped (with_probe p t basis)
shaped_probe p t basis shaped x e found = by (bytes_eq p x) refl found where
  by : (b : Bool) → bytes_eq p x ≡ b → (if b then Some (record { type = t; home = p ∷ [] }) else basis x) ≡ Some e
      → (e.home ≡ x ∷ []) ⊎ ((m w : List ℕ) × (e.home ≡ m ∷ w ∷ []))
  by true is found =
      let named : p ≡ x = (bytes_eq-Decides p x).0 is in
      let entry : record { type = t; home = p ∷ [] } ≡ e = cc in
      inl (sym (ap (λ (w : sml.Entry). w.home) entry) ∙ ap (λ z. z ∷ []) named)
  by false other found = shaped x e found

related_probe : (p : List ℕ) (t : sml.Ty) (v : Val) (basis : sml.Basis) (env : Env) (tenv : text.Env) → Shaped basis → HasVal v t → Related basis env tenv
    → Related (with_probe p t basis) (bound p v env) (text.over (text.put (p ∷ []) (img v) text.empty) tenv)
related_probe p t v basis env tenv shaped has related x e found = by (bytes_eq p x) refl found where
  by : (b : Bool) → bytes_eq p x ≡ b → (if b then Some (record { type = t; home = p ∷ [] }) else basis x) ≡ Some e
      → (w : Val) × ((if bytes_eq p x then Some v else env x) ≡ Some w) × HasVal w e.type × (text.over (text.put (p ∷ []) (img v) text.empty) tenv e.home ≡ Some (img w))
  by true is found =
      let entry : record { type = t; home = p ∷ [] } ≡ e = cc in (
        v,
        rw is refl,
        (let P : sml.Entry → Type 0 = λ w. HasVal v w.type in subst P entry has),
        (let P : sml.Entry → Type 0 = λ w. text.over (text.put (p ∷ []) (img v) text.empty) tenv w.home ≡ Some (img v) in subst P entry (own_part p (img v) tenv)),
      )
  by false other found =
      let r : _ = related x e found in
      (r.0, rw other r.1, r.2, by_shape (shaped x e found) ∙ r.3) where
        by_shape : (e.home ≡ x ∷ []) ⊎ ((m w : List ℕ) × (e.home ≡ m ∷ w ∷ [])) → text.over (text.put (p ∷ []) (img v) text.empty) tenv e.home ≡ tenv e.home
        by_shape (inl h) = rw h (other_part p x (img v) tenv other)
        by_shape (inr h) = rw h.2 (one_part p h.0 h.1 (img v) tenv)

probe_step : (n : ℕ) (basis : sml.Basis) (p : List ℕ) (e : Exp) (t : sml.Ty) (ds : List Dec) (env : Env) (c : Scope) (st : State) (s : prims.St)
    → (d : Does env c.env e (simple_tree (plain (homes_in basis) e)) t)
    → Ran n ds (items_run (plain_items (homes_in (with_probe p t basis)) ds)) (bound p d.value env) (with_vars (text.put (p ∷ []) (img d.value) text.empty) c)
    (record { output = st.output ++ d.printed }) (prims.written d.printed s)
    → Ran n (record { pat = Var p; exp = e } ∷ ds) (items_run (plain_items (homes_in basis) (record { pat = Var p; exp = e } ∷ ds))) env c st s
probe_step n basis p e t ds env c st s d r = record {
  env_after = r.env_after;
  st_after = r.st_after;
  scope_after = r.scope_after;
  s_after = r.s_after;
  source = ap (λ q. then_do q (λ v s1. run_decs (bound p v env) ds s1)) (d.source st) ∙ r.source;
  text =
      ap (λ q. mean.then_do q (λ v s1. ev_items (mean.mean (suc n)) (with_vars (text.put (p ∷ []) v text.empty) c) (items_run (plain_items (with_name (Var p) (homes_in basis)) ds)) s1)) (d.text n s)
      ∙ ap (λ h. ev_items (mean.mean (suc n)) (with_vars (text.put (p ∷ []) (img d.value) text.empty) c) (items_run (plain_items h ds)) (prims.written d.printed s)) (sym (homes_probe p t basis))
      ∙ r.text;
  same_output = r.same_output;
}

-- a probe runs as its plain text
pub probe_runs : (n : ℕ) (basis : sml.Basis) (ds : List Dec) (env : Env) (c : Scope) (st : State) (s : prims.St) → Shaped basis → Related basis env c.env
    → st.output ≡ s.out → IsProbe basis ds → Ran n ds (items_run (plain_items (homes_in basis) ds)) env c st s
probe_runs n basis [] env c st s shaped related alike is =
    record { env_after = env; st_after = st; scope_after = c; s_after = s; source = refl; text = refl; same_output = alike }
probe_runs n basis (d ∷ ds) env c st s shaped related alike is =
    let p : List ℕ = is.0 in
    let t : sml.Ty = is.1 in
    let D : Does env c.env d.exp (simple_tree (plain (homes_in basis) d.exp)) t = does basis env c.env d.exp t related is.5 is.6 in
    let P : Pat → Type 0 = λ q. let f : Dec = record { pat = q; exp = d.exp } in Ran n (f ∷ ds) (items_run (plain_items (homes_in basis) (f ∷ ds))) env c st s in
    subst P (sym is.2) (probe_step n basis p d.exp t ds env c st s D
    (probe_runs n (with_probe p t basis) ds (bound p D.value env) (with_vars (text.put (p ∷ []) (img D.value) text.empty) c)
    (record { output = st.output ++ D.printed }) (prims.written D.printed s)
    (shaped_probe p t basis shaped) (related_probe p t D.value basis env c.env shaped D.has related) (ap (λ o. o ++ D.printed) alike) is.7))

then_then : {A B C : Type 0} (r : Res A) (f : A → State → Res B) (g : B → State → Res C) → then_do (then_do r f) g ≡ then_do r (λ a s. then_do (f a s) g)
then_then (Done a s) f g = refl
then_then (Deep s) f g = refl
then_then (Wrong s) f g = refl

-- one row of declarations after another
pub run-append : (env : Env) (xs ys : List Dec) (st : State) → run_decs env (xs ++ ys) st ≡ then_do (run_decs env xs st) (λ e s1. run_decs e ys s1)
run-append env [] ys st = refl
run-append env (d ∷ xs) ys st =
    let each : (v : Val) (s1 : State) → run_decs (matched d.pat v env) (xs ++ ys) s1 ≡ then_do (run_decs (matched d.pat v env) xs s1) (λ e s2. run_decs e ys s2) =
    λ v s1. run-append (matched d.pat v env) xs ys s1 in
    ap (then_do (eval env d.exp st)) (λ i v s1. each v s1 i)
    ∙ sym (then_then (eval env d.exp st) (λ v s1. run_decs (matched d.pat v env) xs s1) (λ e s2. run_decs e ys s2))
