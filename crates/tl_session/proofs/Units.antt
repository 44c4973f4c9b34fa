-- A unit is evaluated as its source, and what it leaves is at the homes.
use Rattle.std.proofs.Common.{◌≡◌, ℕ, suc, ◌⊎◌, List, [], ◌∷◌, ◌++◌, map, Some, Bool, true, false, if◌then◌else◌, refl, sym, ◌∙◌, ap, subst, inl, inr}
use Rattle.std.specs.Prelude.{codes}
use Rattle.std.specs.Str.{bytes_eq}
use Rattle.std.proofs.lemmas.Slice.Eq.{bytes_eq-Decides}
use Rattle.runs.specs.Tree as run
use Rattle.runs.specs.Env as text
use Rattle.runs.specs.Items.{Scope, with_vars, with_struct, inside, ev_items}
use Rattle.runs.specs.Primitives as prims
use Rattle.runs.specs.Meaning as mean
use Rattle.oc_names.specs.Mangled.{may_name, mangled}
use Rattle.oc_names.specs.declared.names.NameKind.TheVariants as kind
use Rattle.built_items.specs.declared.item.SourceItem.{SourceItem}
use Rattle.built_items.specs.declared.item.Target.{Target}
use Rattle.built_items.specs.declared.item.Target.TheVariants as target
use Rattle.built_items.specs.declared.item.Value.{Value}
use Rattle.built_items.specs.declared.item.Value.TheVariants as value
use Rattle.tl_session.specs.Program.{pat_of, exp_of, dec_of}
use Rattle.tl_session.specs.Meaning.{Val, Special, Labelled, NoVals, Prints, State, Env, Done, then_do, eval, matched, run as run_decs, bound}
use Rattle.tl_session.specs.Static as sml
use Rattle.tl_session.specs.Runs.{simple_tree, items_run}
use Rattle.tl_session.specs.Written.{value_tree, items_tree}
use Rattle.tl_session.proofs.UnitNames.{bytes_same}
use Rattle.tl_session.proofs.ItemNames.{LeavesTarget, LeavesPrint, written_differ}
use Rattle.tl_session.proofs.Typed.{print_path}
use Rattle.tl_session.proofs.Values.{print_value, img, HasVal, Related, same_part-bytes_eq}
use Rattle.tl_session.proofs.Evaluates.{prints, written_nothing, output_nothing}
use Rattle.tl_session.proofs.Rows.{one_part, own_part, other_part}

-- print is there on both sides
pub record HasPrint (env : Env) (tenv : text.Env) : Type 0 where
  pub source : env (codes "print") ≡ Some Prints
  pub text : tenv print_path ≡ Some print_value

-- what the value of an item is evaluated to, and what it prints
abbrev pub made : Value → Val
made (value.Literal l) = Special l
made (value.Printed s) = Labelled NoVals

abbrev pub printed : Value → List ℕ
printed (value.Literal l) = []
printed (value.Printed s) = s

made_has : (v : Value) → HasVal (made v) (sml.value_type v)
made_has (value.Literal l) = refl
made_has (value.Printed s) = (sml.NoTys, tt, refl)

-- after a target took a value
abbrev pub scope_target : Target → Val → Scope → Scope
scope_target target.Wild v c = c
scope_target (target.Var x) v c = with_vars (text.put (mangled kind.Value x ∷ []) (img v) text.empty) c

-- after the items
abbrev pub env_items : List SourceItem → Env → Env
env_items [] env = env
env_items (i ∷ is) env = env_items is (matched (pat_of i.target) (made i.value) env)

abbrev pub scope_items : List SourceItem → Scope → Scope
scope_items [] c = c
scope_items (i ∷ is) c = scope_items is (scope_target i.target (made i.value) c)

pub record UnitRan (n : ℕ) (is : List SourceItem) (env : Env) (c : Scope) (st : State) (s : prims.St) : Type 0 where
  pub st_after : State
  pub s_after : prims.St
  pub source : run_decs env (map dec_of is) st ≡ Done (env_items is env) st_after
  pub text : ev_items (mean.mean (suc n)) c (items_run (items_tree is)) s ≡ mean.Done (scope_items is c) s_after
  pub same_output : st_after.output ≡ s_after.out

-- an item's value is made on both sides, and the output grows by the same text
source_makes : (env : Env) (v : Value) (st : State) → env (codes "print") ≡ Some Prints
    → eval env (exp_of v) st ≡ Done (made v) (record { output = st.output ++ printed v })
source_makes env (value.Literal l) st h = ap (Done (Special l)) (sym (output_nothing st))
source_makes env (value.Printed s) st h = rw h

text_makes : (n : ℕ) (tenv : text.Env) (v : Value) (s : prims.St) → tenv print_path ≡ Some print_value
    → mean.ev (mean.mean (suc n)) tenv (simple_tree (value_tree v)) s ≡ mean.Done (img (made v)) (prims.written (printed v) s)
text_makes n tenv (value.Literal l) s h = ap (mean.Done (img (Special l))) (sym (written_nothing s))
text_makes n tenv (value.Printed t) s h = prints tenv (run.Var print_path) (run.Lit (run.Str t)) t (run.Datum (run.Str t)) (λ go r. rw h) (λ go r. refl) refl n s

print_after : (t : Target) (v : Val) (env : Env) (c : Scope) → LeavesTarget t → HasPrint env c.env → HasPrint (matched (pat_of t) v env) (scope_target t v c).env
print_after target.Wild v env c leaves h = h
print_after (target.Var x) v env c leaves h = record {
  source = rw leaves.0 h.source;
  text = one_part (mangled kind.Value x) (codes "Rt") (codes "print") (img v) c.env ∙ h.text;
}

-- one item, and then those after it
item_runs : (n : ℕ) (t : Target) (v : Value) (is : List SourceItem) (env : Env) (c : Scope) (st : State) (s : prims.St) → HasPrint env c.env
    → UnitRan n is (matched (pat_of t) (made v) env) (scope_target t (made v) c) (record { output = st.output ++ printed v }) (prims.written (printed v) s)
    → UnitRan n (record { target = t; value = v } ∷ is) env c st s
item_runs n target.Wild v is env c st s h r = record {
  st_after = r.st_after;
  s_after = r.s_after;
  source = ap (λ q. then_do q (λ w s1. run_decs env (map dec_of is) s1)) (source_makes env v st h.source) ∙ r.source;
  text = ap (λ q. mean.then_do q (λ w s1. ev_items (mean.mean (suc n)) c (items_run (items_tree is)) s1)) (text_makes n c.env v s h.text) ∙ r.text;
  same_output = r.same_output;
}
item_runs n (target.Var x) v is env c st s h r = record {
  st_after = r.st_after;
  s_after = r.s_after;
  source = ap (λ q. then_do q (λ w s1. run_decs (bound x w env) (map dec_of is) s1)) (source_makes env v st h.source) ∙ r.source;
  text =
      ap (λ q. mean.then_do q (λ w s1. ev_items (mean.mean (suc n)) (with_vars (text.put (mangled kind.Value x ∷ []) w text.empty) c) (items_run (items_tree is)) s1))
      (text_makes n c.env v s h.text)
      ∙ r.text;
  same_output = r.same_output;
}

pub unit_runs : (n : ℕ) (is : List SourceItem) (env : Env) (c : Scope) (st : State) (s : prims.St) → LeavesPrint is → HasPrint env c.env → st.output ≡ s.out
    → UnitRan n is env c st s
unit_runs n [] env c st s leaves h alike = record { st_after = st; s_after = s; source = refl; text = refl; same_output = alike }
unit_runs n (i ∷ is) env c st s leaves h alike =
    item_runs n i.target i.value is env c st s h
    (unit_runs n is _ _ _ _ leaves.1 (print_after i.target (made i.value) env c leaves.0 h) (ap (λ o. o ++ printed i.value) alike))

-- the variable is one of the unit, with its value in own
abbrev pub IsOwn : List ℕ → List ℕ → sml.Entry → Env → text.Env → Type 0
IsOwn u x e env own =
    (may_name kind.Value x ≡ true) × (e.home ≡ u ∷ mangled kind.Value x ∷ []) × (v : Val) × (env x ≡ Some v) × HasVal v e.type
    × (own (mangled kind.Value x ∷ []) ≡ Some (img v))

-- each variable is one of the unit, or was there before, with the same value
abbrev pub InUnit : List ℕ → sml.Basis → Env → sml.Basis → Env → text.Env → Type 0
InUnit u before old basis env own = (x : List ℕ) (e : sml.Entry) → basis x ≡ Some e → IsOwn u x e env own ⊎ ((before x ≡ Some e) × (env x ≡ old x))

-- with the value of one more variable
abbrev with_value : List ℕ → Val → text.Env → text.Env
with_value y v own = text.over (text.put (mangled kind.Value y ∷ []) (img v) text.empty) own

in_unit_more : (u y : List ℕ) (t : sml.Ty) (v : Val) (before : sml.Basis) (old : Env) (basis : sml.Basis) (env : Env) (own : text.Env)
    → may_name kind.Value y ≡ true → HasVal v t → InUnit u before old basis env own
    → InUnit u before old (sml.bound y (record { type = t; home = u ∷ mangled kind.Value y ∷ [] }) basis) (bound y v env) (with_value y v own)
in_unit_more u y t v before old basis env own may has h x e found = by (bytes_eq y x) refl found where
  by : (b : Bool) → bytes_eq y x ≡ b → (if b then Some (record { type = t; home = u ∷ mangled kind.Value y ∷ [] }) else basis x) ≡ Some e
      → IsOwn u x e (bound y v env) (with_value y v own) ⊎ ((before x ≡ Some e) × (bound y v env x ≡ old x))
  by true is found =
      let named : y ≡ x = (bytes_eq-Decides y x).0 is in
      let entry : record { type = t; home = u ∷ mangled kind.Value y ∷ [] } ≡ e = cc in
      inl (
        (let P : List ℕ → Type 0 = λ z. may_name kind.Value z ≡ true in subst P named may),
        sym (ap (λ (w : sml.Entry). w.home) entry) ∙ ap (λ z. u ∷ mangled kind.Value z ∷ []) named,
        v,
        rw is refl,
        (let P : sml.Entry → Type 0 = λ w. HasVal v w.type in subst P entry has),
        (let P : List ℕ → Type 0 = λ z. with_value y v own (mangled kind.Value z ∷ []) ≡ Some (img v) in subst P named (own_part (mangled kind.Value y) (img v) own)),
      )
  by false other found = by_old (h x e found) where
    by_old : IsOwn u x e env own ⊎ ((before x ≡ Some e) × (env x ≡ old x)) → IsOwn u x e (bound y v env) (with_value y v own) ⊎ ((before x ≡ Some e) × (bound y v env x ≡ old x))
    by_old (inl q) =
        inl (q.0, q.1, q.2, rw other q.3, q.4, other_part (mangled kind.Value y) (mangled kind.Value x) (img v) own (written_differ y x may q.0 other) ∙ q.5)
    by_old (inr q) = inr (q.0, rw other q.1)

in_unit_target : (u : List ℕ) (a : Target) (t : sml.Ty) (v : Val) (before : sml.Basis) (old : Env) (basis : sml.Basis) (env : Env) (c : Scope)
    → LeavesTarget a → HasVal v t → InUnit u before old basis env c.own
    → InUnit u before old (sml.with_target u a t basis) (matched (pat_of a) v env) (scope_target a v c).own
in_unit_target u target.Wild t v before old basis env c leaves has h = h
in_unit_target u (target.Var y) t v before old basis env c leaves has h = in_unit_more u y t v before old basis env c.own leaves.1 has h

pub in_unit : (u : List ℕ) (is : List SourceItem) (before : sml.Basis) (old : Env) (basis : sml.Basis) (env : Env) (c : Scope) → LeavesPrint is
    → InUnit u before old basis env c.own → InUnit u before old (sml.with_items u is basis) (env_items is env) (scope_items is c).own
in_unit u [] before old basis env c leaves h = h
in_unit u (i ∷ is) before old basis env c leaves h =
    in_unit u is before old _ _ (scope_target i.target (made i.value) c) leaves.1
    (in_unit_target u i.target (sml.value_type i.value) (made i.value) before old basis env c leaves.0 (made_has i.value) h)

-- a home in another structure is found after the unit as before
skips_unit : (u m x : List ℕ) (own e : text.Env) → bytes_eq u m ≡ false → text.under u own e (m ∷ x ∷ []) ≡ e (m ∷ x ∷ [])
skips_unit u m x own e other = rw (same_part-bytes_eq u m, other)

in_the_unit : (u x : List ℕ) (own e : text.Env) → text.under u own e (u ∷ x ∷ []) ≡ own (x ∷ [])
in_the_unit u x own e = rw (same_part-bytes_eq u u, bytes_same u)

-- the values that the items of a unit bind in it
abbrev own_of : List SourceItem → Scope → text.Env
own_of is c = (scope_items is (inside c)).own

-- after the unit each variable is related again
pub related_unit : (u : List ℕ) (is : List SourceItem) (basis : sml.Basis) (env : Env) (c : Scope) → LeavesPrint is
    → ((x : List ℕ) (e : sml.Entry) → basis x ≡ Some e → (m w : List ℕ) × (e.home ≡ m ∷ w ∷ []) × (bytes_eq u m ≡ false))
    → Related basis env c.env
    → Related (sml.with_items u is basis) (env_items is env) (with_struct u (scope_items is (inside c)).own c).env
related_unit u is basis env c leaves homes related x e found =
    by (in_unit u is basis env basis env (inside c) leaves (λ y f was. inr (was, refl)) x e found) where
      by : IsOwn u x e (env_items is env) (own_of is c) ⊎ ((basis x ≡ Some e) × (env_items is env x ≡ env x))
          → (v : Val) × (env_items is env x ≡ Some v) × HasVal v e.type × (text.under u (own_of is c) c.env e.home ≡ Some (img v))
      by (inl q) = (q.2, q.3, q.4, ap (λ home. text.under u (own_of is c) c.env home) q.1 ∙ (in_the_unit u (mangled kind.Value x) (own_of is c) c.env ∙ q.5))
      by (inr q) =
          let r : _ = related x e q.0 in
          let h : _ = homes x e q.0 in
          (r.0, q.1 ∙ r.1, r.2, ap (λ home. text.under u (own_of is c) c.env home) h.2 ∙ (skips_unit u h.0 h.1 (own_of is c) c.env h.3 ∙ (sym (ap (λ home. c.env home) h.2) ∙ r.3)))

-- and print is there
pub print_unit : (u : List ℕ) (is : List SourceItem) (env : Env) (c : Scope) → bytes_eq u (codes "Rt") ≡ false → LeavesPrint is → HasPrint env c.env
    → HasPrint (env_items is env) (with_struct u (scope_items is (inside c)).own c).env
print_unit u is env c other leaves h = record {
  source = kept is env leaves h.source;
  text = skips_unit u (codes "Rt") (codes "print") (scope_items is (inside c)).own c.env other ∙ h.text;
} where
  kept_target : (t : Target) (v : Val) (f : Env) → LeavesTarget t → f (codes "print") ≡ Some Prints → matched (pat_of t) v f (codes "print") ≡ Some Prints
  kept_target target.Wild v f l g = g
  kept_target (target.Var x) v f l g = rw l.0 g

  kept : (js : List SourceItem) (f : Env) → LeavesPrint js → f (codes "print") ≡ Some Prints → env_items js f (codes "print") ≡ Some Prints
  kept [] f l g = g
  kept (j ∷ js) f l g = kept js (matched (pat_of j.target) (made j.value) f) l.1 (kept_target j.target (made j.value) f l.0 g)
