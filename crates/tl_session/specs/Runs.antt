-- How the written text runs: the trees of the steps that its phrases stand for.
use Rattle.std.specs.Prelude.{List, [], ◌∷◌}
use Rattle.beh.specs.Agree.{Agree}
use Rattle.runs.specs.Tree as run
use Rattle.runs.specs.Primitives.{start}
use Rattle.runs.specs.Forms.{text_scope}
use Rattle.runs.specs.Seen.{Config, ConfigStep, seen_config, at_start}
use Rattle.oc_ast.specs.declared.literal.OcLit.{OcLit}
use Rattle.oc_ast.specs.declared.literal.OcLit.TheVariants.{Int, Char, Text}
use Rattle.oc_ast.specs.Plain.{PPat, PAt, PAPat, Any, PVar, PAtom, Const, Val, Nothing, Tuple, Items, PAtoms, NoAtoms, MoreAtoms, PSimple, One, Call, Fun, PFull, Is, PItem, Let, Types, Module, PItems, NoItems, MoreItems, PMExp, Struct}
use Rattle.tl_session.specs.Program.{Dec}
use Rattle.tl_session.specs.Meaning.{meaning}

abbrev pub const_of : OcLit → run.Const
const_of (Int z) = run.Int z
const_of (Char c) = run.Char c
const_of (Text bytes) = run.Str bytes

-- a form that is not written yet has no step: it is a variable that nothing binds
abbrev pub no_step : run.Exp
no_step = run.Var []

abbrev mutual
  pub atom_tree : PAtom → run.Exp
  atom_tree (Const l) = run.Lit (const_of l)
  atom_tree (Val path) = run.Var path
  atom_tree Nothing = run.Node run.Pair run.Nil
  atom_tree (Tuple a more) = run.Node run.Pair (run.Cons (atom_tree a) (atom_trees more))
  atom_tree (Items parts) = run.Node run.ListOf (atom_trees parts)
  atom_tree _ = no_step

  pub atom_trees : PAtoms → run.Exps
  atom_trees NoAtoms = run.Nil
  atom_trees (MoreAtoms a more) = run.Cons (atom_tree a) (atom_trees more)

-- a function of what the pattern takes; a pattern that does not take its value has no step
abbrev pub function_tree : PAPat → run.Exp → run.Exp
function_tree Any e = run.Fn run.Stuck (run.Rule run.PAny e run.Stop)
function_tree (PVar x) e = run.Fn run.Stuck (run.Rule (run.PVar (x ∷ [])) e run.Stop)
function_tree _ e = no_step

abbrev mutual
  pub simple_tree : PSimple → run.Exp
  simple_tree (One a) = atom_tree a
  simple_tree (Call f a) = run.Node run.Apply (run.Cons (atom_tree f) (run.Cons (atom_tree a) run.Nil))
  simple_tree (Fun p e) = function_tree p (full_tree e)
  simple_tree _ = no_step

  pub full_tree : PFull → run.Exp
  full_tree (Is e) = simple_tree e
  full_tree _ = no_step

-- an item without a step, before others
abbrev pub stuck_run : run.Items → run.Items
stuck_run rest = run.Value run.Stuck run.PAny no_step rest

abbrev pub let_run : PPat → run.Exp → run.Items → run.Items
let_run (PAt Any) e rest = run.Value run.Stuck run.PAny e rest
let_run (PAt (PVar x)) e rest = run.Value run.Stuck (run.PVar (x ∷ [])) e rest
let_run _ e rest = stuck_run rest

abbrev mutual
  pub items_run : PItems → run.Items
  items_run NoItems = run.End
  items_run (MoreItems i rest) = item_run i (items_run rest)

  -- the item, before others; a type has no value
  pub item_run : PItem → run.Items → run.Items
  item_run (Let p e) rest = let_run p (simple_tree e) rest
  item_run (Types ds) rest = rest
  item_run (Module m e) rest = run.Struct m (module_run e) rest
  item_run _ rest = stuck_run rest

  pub module_run : PMExp → run.Items
  module_run (Struct is) = items_run is
  module_run _ = stuck_run run.End

-- a text before it runs
abbrev pub at_first : PItems → Config
at_first text = at_start text_scope (items_run text) start

-- the meaning of the declarations and the runs of the text agree, in any order of the steps
abbrev pub Agrees : List Dec → PItems → Type 0
Agrees ds text = Agree (meaning ds) ConfigStep seen_config (at_first text)
