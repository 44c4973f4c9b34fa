-- The sources with a probe after them agree with their text and its plain text, in any order of the steps.
use Rattle.std.proofs.Common.{◌≡◌, ℕ, zero, suc, ◌<◌, ◌^◌, List, [], ◌++◌, length, refl, sym, ◌∙◌, ap, inr}
use Rattle.beh.specs.Behaviour.{Behaviour, Ended, Extends}
use Rattle.beh.specs.Agree.{Match}
use Rattle.beh.proofs.Matching.{agree_over, extends_equal}
use Rattle.runs.specs.Tree as run
use Rattle.runs.specs.Forms.{text_scope}
use Rattle.runs.specs.Ordered.{Still, AllStill, OneActive, Ordered, AllOrdered, OrderedItems}
use Rattle.runs.specs.Primitives as prims
use Rattle.runs.specs.Seen.{shown, ConfigStep, seen_config}
use Rattle.runs.proofs.Begin.{text_ordered}
use Rattle.runs.proofs.Ends.{done_agrees}
use Rattle.built_items.specs.declared.item.SourceItem.{SourceItem}
use Rattle.tl_session.specs.Program.{Dec, decs_of}
use Rattle.tl_session.specs.Meaning.{State, Env, Done, run as run_decs, initial, meaning, seen}
use Rattle.tl_session.specs.Kept.{Source, basis_after}
use Rattle.tl_session.specs.Probe.{IsProbe, homes_in, plain_items}
use Rattle.tl_session.specs.Runs.{atom_tree, atom_trees, function_tree, simple_tree, full_tree, let_run, items_run, item_run, module_run, at_first, Agrees}
use Rattle.oc_ast.specs.Plain.{PAtom, Const, Val, Con, Paren, Nothing, Tuple, Items, PAtoms, NoAtoms, MoreAtoms, PSimple, One, Call, Build, Oper, Fun, PFull, Is, PAPat, Any, PVar, PPat, PAt, PItem, Let, Types, Module, PItems, NoItems, MoreItems, PMExp, Struct}
use Rattle.tl_session.specs.Written.{join}
use Rattle.tl_session.specs.Faithful.{whole}
use Rattle.tl_session.specs.Faithful.{texts_from}
use Rattle.tl_session.proofs.Texts.{AllLeavePrint, text_runs}

-- atoms only make their values
mutual
  still_atom : (a : PAtom) → Still (atom_tree a)
  still_atom (Const l) = tt
  still_atom (Val path) = tt
  still_atom (Con path) = tt
  still_atom Nothing = (refl, tt)
  still_atom (Paren e) = tt
  still_atom (Tuple a more) = (refl, (still_atom a, still_atoms more))
  still_atom (Items parts) = (refl, still_atoms parts)

  still_atoms : (parts : PAtoms) → AllStill (atom_trees parts)
  still_atoms NoAtoms = tt
  still_atoms (MoreAtoms a more) = (still_atom a, still_atoms more)

one_active : (es : run.Exps) → AllStill es → OneActive es
one_active run.Nil h = tt
one_active (run.Cons e es) h = inr h.1

mutual
  ordered_atom : (a : PAtom) → Ordered (atom_tree a)
  ordered_atom (Const l) = tt
  ordered_atom (Val path) = tt
  ordered_atom (Con path) = tt
  ordered_atom Nothing = (tt, tt)
  ordered_atom (Paren e) = tt
  ordered_atom (Tuple a more) = (inr (still_atoms more), (ordered_atom a, ordered_atoms more))
  ordered_atom (Items parts) = (one_active (atom_trees parts) (still_atoms parts), ordered_atoms parts)

  ordered_atoms : (parts : PAtoms) → AllOrdered (atom_trees parts)
  ordered_atoms NoAtoms = tt
  ordered_atoms (MoreAtoms a more) = (ordered_atom a, ordered_atoms more)

ordered_function : (p : PAPat) (e : run.Exp) → Ordered e → Ordered (function_tree p e)
ordered_function Any e h = (tt, (h, tt))
ordered_function (PVar x) e h = (tt, (h, tt))
ordered_function _ e h = tt

mutual
  ordered_simple : (e : PSimple) → Ordered (simple_tree e)
  ordered_simple (One a) = ordered_atom a
  ordered_simple (Call f a) = (inr (still_atom a, tt), (ordered_atom f, (ordered_atom a, tt)))
  ordered_simple (Build q a) = tt
  ordered_simple (Oper a o b) = tt
  ordered_simple (Fun p e) = ordered_function p (full_tree e) (ordered_full e)

  ordered_full : (e : PFull) → Ordered (full_tree e)
  ordered_full (Is e) = ordered_simple e
  ordered_full _ = tt

ordered_let : (p : PPat) (e : run.Exp) (rest : run.Items) → Ordered e → OrderedItems rest → OrderedItems (let_run p e rest)
ordered_let (PAt Any) e rest h k = (tt, h, k)
ordered_let (PAt (PVar x)) e rest h k = (tt, h, k)
ordered_let _ e rest h k = (tt, tt, k)

-- in each text at most one part of each row is not still
mutual
  pub ordered_items : (items : PItems) → OrderedItems (items_run items)
  ordered_items NoItems = tt
  ordered_items (MoreItems i rest) = ordered_item i (items_run rest) (ordered_items rest)

  ordered_item : (i : PItem) (rest : run.Items) → OrderedItems rest → OrderedItems (item_run i rest)
  ordered_item (Let p e) rest h = ordered_let p (simple_tree e) rest (ordered_simple e) h
  ordered_item (Types ds) rest h = h
  ordered_item (Module m e) rest h = (ordered_module e, h)
  ordered_item _ rest h = (tt, tt, h)

  ordered_module : (e : PMExp) → OrderedItems (module_run e)
  ordered_module (Struct is) = ordered_items is
  ordered_module _ = (tt, tt, tt)

-- a meaning that has come to its end from 1 on matches that end
ends_match : (ds : List Dec) (env : Env) (st : State) (t : prims.St) → run_decs initial ds (record { output = [] }) ≡ Done env st → st.output ≡ t.out
    → Match (meaning ds) (λ m. shown t Ended)
ends_match ds env st t is same =
    let ended : (n : ℕ) → meaning ds (suc n) ≡ shown t Ended =
    λ n. ap seen is ∙ ap (λ (o : List ℕ). let b : Behaviour = record { output = o; ending = Ended } in b) same in
    record {
      there = λ n. (zero, by n (ended n));
      back = λ m. (suc zero, extends_equal (shown t Ended) (meaning ds (suc zero)) (ended zero));
    } where
      by : (n : ℕ) → meaning ds (suc n) ≡ shown t Ended → Extends (shown t Ended) (meaning ds n)
      by zero e = record { begins = (t.out, refl); over = λ no. absurd no }
      by (suc n) e = extends_equal (meaning ds (suc n)) (shown t Ended) (sym e)

-- the whole theorem
pub probe_agrees : (ss : List Source) (ps : List (List SourceItem)) (ds : List Dec) → length ps ≡ length ss → suc (length ss) < 2 ^ 64
    → AllLeavePrint ps → IsProbe (basis_after ss ps) ds
    → Agrees (decs_of ps ++ ds) (join (whole (texts_from 1 ss ps)) (plain_items (homes_in (basis_after ss ps)) ds))
probe_agrees ss ps ds same low leave is =
    let text : PItems = join (whole (texts_from 1 ss ps)) (plain_items (homes_in (basis_after ss ps)) ds) in
    let r : _ = text_runs zero ss ps ds same low leave is in
    agree_over (meaning (decs_of ps ++ ds)) (λ m. shown r.s_after Ended) ConfigStep seen_config (at_first text)
    (ends_match (decs_of ps ++ ds) r.env_after r.st_after r.s_after r.source r.same_output)
    (done_agrees text_scope r.scope_after (items_run text) prims.start r.s_after (suc (suc zero)) text_ordered (ordered_items text) tt r.text)
