-- The trees of runs that the phrases of a text stand for (the OCaml manual, sections 11.6, 11.7 and 11.11): a line for
-- each form. Where a constructor is an exception is known from what stands before.
use Rattle.std.specs.Prelude.{Bool, true, false}
use Rattle.oc_ast.specs.declared.literal.OcLit.{OcLit}
use Rattle.oc_ast.specs.declared.literal.OcLit.TheVariants as lit
use Rattle.oc_ast.specs.Plain.{Bytes, Long, PAPat, Any, PVar, PConst, PCon, PUnit, PParen, PTuple, PNil, PCell, PAPats, NoPats, MorePats, PPat, PAt, PBuild, PCons, PAs, PAtom, Const, Val, Con, Nothing, Paren, Tuple, Items, PAtoms, NoAtoms, MoreAtoms, PArms, NoArms, MoreArms, PFull, Is, LetIn, LetRecIn, LetMod, LetExn, If, Match, Try, While, Then, PItem, Let, LetRec, Types, Exn, ExnAs, Module, Sealed, Functor, PItems, NoItems, MoreItems, PMExp, MAt, Struct, Apply, MSeal, PRBind, Plain, Poly, PRBinds, NoBinds, MoreBinds, PSimple, One, Call, Build, Oper, Fun}
use Rattle.runs.specs.Env.{nothing}
use Rattle.runs.specs.Forms.{call, choice, cons_pat, fun_of, let_in, nil_pat, one, seq, unit_exp, unit_pat, var, while_do}
use Rattle.runs.specs.Names.{last_part}
use Rattle.runs.specs.Tree as run
use Rattle.oc_steps.specs.Known.{Known, Holds, Raises, is_exception, item_knows, items_know, over}
use Rattle.oc_steps.specs.Operators.{form_of, form_tree, no_step}

abbrev pub const_of : OcLit → run.Const
const_of (lit.Int z) = run.Int z
const_of (lit.Char c) = run.Char c
const_of (lit.Text s) = run.Str s

-- the pattern of an exception by its path, or of a constructor by its last name
abbrev pub con_pat : Bool → Long → run.Pats → run.Pat
con_pat true q ps = run.PExn (run.Named q) ps
con_pat false q ps = run.PCon (last_part q) ps

-- likewise: an exception is made of its name, which is read at the path, and its argument
abbrev pub con_tree : Bool → Long → run.Exps → run.Exp
con_tree true q es = run.Node run.Make (run.Cons (run.Var q) es)
con_tree false q es = run.Node (run.Build (last_part q)) es

abbrev mutual
  pub apat_tree : Known → PAPat → run.Pat
  apat_tree k Any = run.PAny
  apat_tree k (PVar x) = run.PVar (var x)
  apat_tree k (PConst l) = run.PLit (const_of l)
  apat_tree k (PCon q) = con_pat (is_exception q k) q run.PNil
  apat_tree k PUnit = unit_pat
  apat_tree k (PParen p) = pat_tree k p
  apat_tree k (PTuple p ps) = run.PTup (run.PMore (apat_tree k p) (apats_tree k ps))
  apat_tree k PNil = nil_pat
  apat_tree k (PCell p) = run.PCell (pat_tree k p)

  pub apats_tree : Known → PAPats → run.Pats
  apats_tree k NoPats = run.PNil
  apats_tree k (MorePats p ps) = run.PMore (apat_tree k p) (apats_tree k ps)

  pub pat_tree : Known → PPat → run.Pat
  pat_tree k (PAt p) = apat_tree k p
  pat_tree k (PBuild q p) = con_pat (is_exception q k) q (run.PMore (apat_tree k p) run.PNil)
  pat_tree k (PCons p q) = cons_pat (apat_tree k p) (apat_tree k q)
  pat_tree k (PAs p x) = run.PLayer (var x) (apat_tree k p)

abbrev mutual
  pub atom_tree : Known → PAtom → run.Exp
  atom_tree k (Const l) = run.Lit (const_of l)
  atom_tree k (Val q) = run.Var q
  atom_tree k (Con q) = con_tree (is_exception q k) q run.Nil
  atom_tree k Nothing = unit_exp
  atom_tree k (Paren f) = full_tree k f
  atom_tree k (Tuple a xs) = run.Node run.Pair (run.Cons (atom_tree k a) (atoms_tree k xs))
  atom_tree k (Items xs) = run.Node run.ListOf (atoms_tree k xs)

  pub atoms_tree : Known → PAtoms → run.Exps
  atoms_tree k NoAtoms = run.Nil
  atoms_tree k (MoreAtoms a xs) = run.Cons (atom_tree k a) (atoms_tree k xs)

  pub arms_tree : Known → PArms → run.Rules
  arms_tree k NoArms = run.Stop
  arms_tree k (MoreArms p a arms) = run.Rule (pat_tree k p) (atom_tree k a) (arms_tree k arms)

  pub simple_tree : Known → PSimple → run.Exp
  simple_tree k (One a) = atom_tree k a
  simple_tree k (Call f a) = call (atom_tree k f) (atom_tree k a)
  simple_tree k (Build q a) = con_tree (is_exception q k) q (one (atom_tree k a))
  simple_tree k (Oper a o b) = form_tree (form_of o) (atom_tree k a) (atom_tree k b)
  simple_tree k (Fun p f) = fun_of (apat_tree k p) (full_tree k f)

  -- a pattern or a match that does not take its value has no step; `try` passes on what no rule takes
  pub full_tree : Known → PFull → run.Exp
  full_tree k (Is e) = simple_tree k e
  full_tree k (LetIn p e f) = let_in (pat_tree k p) (simple_tree k e) (full_tree k f)
  full_tree k (LetRecIn rs f) = run.Group (binds_tree k rs) (full_tree k f)
  full_tree k (LetMod m is f) = run.LetMod nothing m (items_tree k is) (full_tree (Holds m (items_know k is) k) f)
  full_tree k (LetExn n w f) = run.NewExn (var n) (full_tree (Raises n k) f)
  full_tree k (If a b c) = choice (atom_tree k a) (atom_tree k b) (atom_tree k c)
  full_tree k (Match a arms) = run.Case run.Stuck (atom_tree k a) (arms_tree k arms)
  full_tree k (Try a arms) = run.Try (atom_tree k a) (arms_tree k arms)
  full_tree k (While a f) = while_do (atom_tree k a) (full_tree k f)
  full_tree k (Then a f) = seq (atom_tree k a) (full_tree k f)

  pub binds_tree : Known → PRBinds → run.Funs
  binds_tree k NoBinds = run.NoFuns
  binds_tree k (MoreBinds r rs) = bind_tree k r (binds_tree k rs)

  -- before the members after it
  pub bind_tree : Known → PRBind → run.Funs → run.Funs
  bind_tree k (Plain x e) more = run.Fun (var x) run.Stuck (rules_tree k e) more
  bind_tree k (Poly x vs w e) more = run.Fun (var x) run.Stuck (rules_tree k e) more

  -- the rules of a right side, which is a `fun`
  pub rules_tree : Known → PSimple → run.Rules
  rules_tree k (Fun p f) = run.Rule (apat_tree k p) (full_tree k f) run.Stop
  rules_tree k (One a) = run.Stop
  rules_tree k (Call f a) = run.Stop
  rules_tree k (Build q a) = run.Stop
  rules_tree k (Oper a o b) = run.Stop

  pub items_tree : Known → PItems → run.Items
  items_tree k NoItems = run.End
  items_tree k (MoreItems i is) = item_tree k i (items_tree (over (item_knows k i) k) is)

  -- before the items after it; types have no value
  pub item_tree : Known → PItem → run.Items → run.Items
  item_tree k (Let p e) more = run.Value run.Stuck (pat_tree k p) (simple_tree k e) more
  item_tree k (LetRec rs) more = run.Functions (binds_tree k rs) more
  item_tree k (Types ds) more = more
  item_tree k (Exn n w) more = run.Exception (var n) more
  -- the alias is the value at the path
  item_tree k (ExnAs n q) more = run.Value run.Stuck (run.PVar (var n)) (run.Var q) more
  item_tree k (Module m o) more = mod_tree k m o more
  -- no rule yet, so no step
  item_tree k (Sealed m s o) more = run.Value run.Stuck run.PAny no_step more
  item_tree k (Functor f x s o) more = run.Value run.Stuck run.PAny no_step more

  pub mod_tree : Known → Bytes → PMExp → run.Items → run.Items
  mod_tree k m (MAt q) more = run.Alias m q more
  mod_tree k m (Struct is) more = run.Struct m (items_tree k is) more
  -- no rule yet, so no step
  mod_tree k m (Apply f a) more = run.Value run.Stuck run.PAny no_step more
  mod_tree k m (MSeal o s) more = run.Value run.Stuck run.PAny no_step more
