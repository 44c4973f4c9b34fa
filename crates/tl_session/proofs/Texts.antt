-- A whole text, with a probe's plain text after it, is evaluated as the sources with the probe after them.
use Rattle.std.proofs.Common.{◌≡◌, ℕ, suc, ◌+◌, ◌<◌, ◌^◌, List, [], ◌∷◌, ◌++◌, map, length, Some, None, Bool, true, false, if◌then◌else◌, refl, sym, ◌∙◌, ap, subst, append_assoc, inr, arith}
use Rattle.std.specs.Prelude.{codes}
use Rattle.std.specs.Str.{bytes_eq}
use Rattle.runs.specs.Tree as run
use Rattle.runs.specs.Env as text
use Rattle.runs.specs.Items.{Scope, with_struct, inside, ev_items}
use Rattle.runs.specs.Primitives as prims
use Rattle.runs.specs.Meaning as mean
use Rattle.built_items.specs.declared.item.SourceItem.{SourceItem}
use Rattle.tl_session.specs.Program.{Dec, dec_of, decs_of}
use Rattle.tl_session.specs.Meaning.{Val, Prints, State, Env, then_do, run as run_decs, initial}
use Rattle.tl_session.specs.Static as sml
use Rattle.tl_session.specs.Kept.{Source, unit_of, basis_from, basis_after}
use Rattle.tl_session.specs.Probe.{IsProbe, homes_in, plain_items}
use Rattle.runs.specs.Forms.{text_scope}
use Rattle.tl_session.specs.Runs.{items_run}
use Rattle.oc_ast.specs.Plain.{PItems}
use Rattle.tl_session.specs.Written.{items_tree, base_of, rt_tree, join}
use Rattle.tl_session.specs.Faithful.{joined, whole}
use Rattle.tl_session.specs.Faithful.{texts_from}
use Rattle.tl_session.proofs.Keeps.{HomesBefore, homes_more, initial_homes}
use Rattle.tl_session.proofs.Values.{print_value, img, HasVal, Related}
use Rattle.tl_session.proofs.Rows.{Ran, Shaped, probe_runs, run-append}
pub use Rattle.tl_session.proofs.ItemNames.{AllLeavePrint}
use Rattle.tl_session.proofs.Units.{HasPrint, UnitRan, unit_runs, env_items, scope_items, related_unit, print_unit}

shaped : (k : ℕ) (basis : sml.Basis) → HomesBefore k basis → Shaped basis
shaped k basis homes x e is = let h : _ = homes x e is in inr (h.0, h.1, h.2)

-- one unit, and then what is after it
unit_step : (n : ℕ) (u : List ℕ) (p : List SourceItem) (ds : List Dec) (rest : run.Items) (env : Env) (c : Scope) (st : State) (s : prims.St)
    → (r : UnitRan n p env (inside c) st s)
    → Ran n ds rest (env_items p env) (with_struct u (scope_items p (inside c)).own c) r.st_after r.s_after
    → Ran n (map dec_of p ++ ds) (run.Struct u (items_run (items_tree p)) rest) env c st s
unit_step n u p ds rest env c st s r t = record {
  env_after = t.env_after;
  st_after = t.st_after;
  scope_after = t.scope_after;
  s_after = t.s_after;
  source = run-append env (map dec_of p) ds st ∙ ap (λ q. then_do q (λ e s1. run_decs e ds s1)) r.source ∙ t.source;
  text = ap (λ q. mean.then_do q (λ b s1. ev_items (mean.mean (suc n)) (with_struct u b.own c) rest s1)) r.text ∙ t.text;
  same_output = t.same_output;
}

units_run : (n k : ℕ) (ss : List Source) (ps : List (List SourceItem)) (ds : List Dec) (basis : sml.Basis) (env : Env) (c : Scope) (st : State) (s : prims.St)
    → length ps ≡ length ss → k + length ss < 2 ^ 64 → AllLeavePrint ps → HomesBefore k basis → Related basis env c.env → HasPrint env c.env → st.output ≡ s.out
    → IsProbe (basis_from k ss ps basis) ds
    → Ran n (decs_of ps ++ ds) (items_run (join (joined (texts_from k ss ps)) (plain_items (homes_in (basis_from k ss ps basis)) ds))) env c st s
units_run n k [] [] ds basis env c st s same low leave homes related h alike is = probe_runs n basis ds env c st s (shaped k basis homes) related alike is
units_run n k [] (p ∷ ps) ds basis env c st s same low leave homes related h alike is = absurd (omega arith)
units_run n k (source ∷ ss) [] ds basis env c st s same low leave homes related h alike is = absurd (omega arith)
units_run n k (source ∷ ss) (p ∷ ps) ds basis env c st s same low leave homes related h alike is =
    let u : List ℕ = unit_of k source in
    let r : UnitRan n p env (inside c) st s = unit_runs n p env (inside c) st s leave.0 h alike in
    let P : List Dec → Type 0 = λ es. Ran n es (run.Struct u (items_run (items_tree p))
    (items_run (join (joined (texts_from (suc k) ss ps)) (plain_items (homes_in (basis_from k (source ∷ ss) (p ∷ ps) basis)) ds)))) env c st s in
    subst P (sym (append_assoc (map dec_of p) (decs_of ps) ds)) (unit_step n u p (decs_of ps ++ ds) _ env c st s r
    (units_run n (suc k) ss ps ds (sml.with_items u p basis) (env_items p env) (with_struct u (scope_items p (inside c)).own c) r.st_after r.s_after
    (omega arith) (omega arith) leave.1
    (homes_more k (base_of source.name) p basis (omega arith) homes leave.0)
    (related_unit u p basis env c leave.0 (λ x e found. let w : _ = homes x e found in (w.0, w.1, w.2, w.3 k (base_of source.name) (omega arith) (omega arith))) related)
    (print_unit u p env c refl leave.0 h) r.same_output is))

-- after Rt
abbrev pub rt_scope : Scope
rt_scope = with_struct (codes "Rt") (text.over (text.put (codes "print" ∷ []) print_value text.empty) text.empty) text_scope

rt_runs : (n : ℕ) (rest : PItems) (s : prims.St)
    → ev_items (mean.mean (suc n)) text_scope (items_run (join rt_tree rest)) s ≡ ev_items (mean.mean (suc n)) rt_scope (items_run rest) s
rt_runs n rest s = refl

initial_related : Related sml.initial initial rt_scope.env
initial_related x e is = by (bytes_eq (codes "print") x) refl is where
  by : (b : Bool) → bytes_eq (codes "print") x ≡ b → (if b then Some sml.print_entry else None) ≡ Some e
      → (v : Val) × ((if bytes_eq (codes "print") x then Some Prints else None) ≡ Some v) × HasVal v e.type × (rt_scope.env e.home ≡ Some (img v))
  by true same is =
      let entry : sml.print_entry ≡ e = cc in (
        Prints,
        rw same refl,
        sym (ap (λ (w : sml.Entry). w.type) entry),
        (let P : sml.Entry → Type 0 = λ w. rt_scope.env w.home ≡ Some print_value in subst P entry refl),
      )
  by false other is = cc

-- the sources with a probe after them, and their text with its plain text after it
pub text_runs : (n : ℕ) (ss : List Source) (ps : List (List SourceItem)) (ds : List Dec) → length ps ≡ length ss → suc (length ss) < 2 ^ 64
    → AllLeavePrint ps → IsProbe (basis_after ss ps) ds
    → Ran n (decs_of ps ++ ds) (items_run (join (whole (texts_from 1 ss ps)) (plain_items (homes_in (basis_after ss ps)) ds)))
    initial text_scope (record { output = [] }) prims.start
text_runs n ss ps ds same low leave is =
    let r : Ran n (decs_of ps ++ ds) (items_run (join (joined (texts_from 1 ss ps)) (plain_items (homes_in (basis_after ss ps)) ds))) initial rt_scope (record { output = [] }) prims.start =
    units_run n 1 ss ps ds sml.initial initial rt_scope (record { output = [] }) prims.start same (omega arith) leave initial_homes initial_related
    (record { source = refl; text = refl }) refl is in
    record { env_after = r.env_after; st_after = r.st_after; scope_after = r.scope_after; s_after = r.s_after; source = r.source; text = r.text; same_output = r.same_output }
