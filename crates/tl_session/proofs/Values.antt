-- Values of the source, their types, and their images in the text.
use Rattle.std.proofs.Common.{◌≡◌, ℕ, List, [], ◌∷◌, Some, Bool, true, false, ◌&&◌, nat_eq, if◌then◌else◌, refl}
use Rattle.std.specs.Prelude.{codes}
use Rattle.std.specs.Str.{bytes_eq}
use Rattle.runs.specs.Tree as run
use Rattle.runs.specs.Names.{same_part}
use Rattle.runs.specs.Primitives.{nil_part, cons_part}
use Rattle.runs.specs.Env as text
use Rattle.tl_session.specs.Meaning.{Val, Special, Labelled, Nil, Cons, Prints, Vals, NoVals, MoreVals, Env}
use Rattle.tl_session.specs.Static as sml
use Rattle.tl_session.specs.Runs.{const_of}
use Rattle.tl_session.specs.Written.{literal_of}

-- Rt.print, as it is finished: fun s -> print_string s
abbrev pub print_value : run.Val
print_value =
    run.Clo run.Stuck (run.Rule (run.PVar (codes "s" ∷ []))
    (run.Node run.Apply (run.Cons (run.Is (run.Prim run.PrintString run.NoVals)) (run.Cons (run.Var (codes "s" ∷ [])) run.Nil)))
    run.Stop)

-- a record of one label is its component
abbrev pub labelled : run.Vals → run.Val
labelled run.NoVals = run.Tup run.NoVals
labelled (run.Item v run.NoVals) = v
labelled (run.Item v (run.Item w vs)) = run.Tup (run.Item v (run.Item w vs))

abbrev mutual
  pub img : Val → run.Val
  img (Special l) = run.Datum (const_of (literal_of l))
  img (Labelled vs) = labelled (imgs vs)
  img Nil = run.Con nil_part run.NoVals
  img (Cons v w) = run.Con cons_part (run.Item (img v) (run.Item (img w) run.NoVals))
  img Prints = print_value

  pub imgs : Vals → run.Vals
  imgs NoVals = run.NoVals
  imgs (MoreVals v vs) = run.Item (img v) (imgs vs)

abbrev mutual
  -- the value has the type
  pub HasVal : Val → sml.Ty → Type 0
  HasVal (Special l) t = t ≡ sml.type_of l
  HasVal (Labelled vs) t = (ts : sml.Tys) × HaveVals vs ts × (t ≡ sml.Labelled ts)
  HasVal Nil t = (u : sml.Ty) × (t ≡ sml.ListOf u)
  HasVal (Cons v w) t = (u : sml.Ty) × HasVal v u × HasVal w (sml.ListOf u) × (t ≡ sml.ListOf u)
  HasVal Prints t = t ≡ sml.Arrow sml.String sml.unit

  pub HaveVals : Vals → sml.Tys → Type 0
  HaveVals NoVals sml.NoTys = Unit {0}
  HaveVals (MoreVals v vs) (sml.MoreTys t ts) = HasVal v t × HaveVals vs ts
  HaveVals NoVals (sml.MoreTys t ts) = ⊥
  HaveVals (MoreVals v vs) sml.NoTys = ⊥

-- each variable has a value of its type, whose image is at its home
abbrev pub Related : sml.Basis → Env → text.Env → Type 0
Related basis env tenv =
    (x : List ℕ) (e : sml.Entry) → basis x ≡ Some e → (v : Val) × (env x ≡ Some v) × HasVal v e.type × (tenv e.home ≡ Some (img v))

and_then : (b : Bool) {p q : Bool} → p ≡ q → (if b then p else false) ≡ (b && q)
and_then true e = e
and_then false e = refl

-- both tests of bytes are one
pub same_part-bytes_eq : (xs ys : List ℕ) → same_part xs ys ≡ bytes_eq xs ys
same_part-bytes_eq [] [] = refl
same_part-bytes_eq [] (y ∷ ys) = refl
same_part-bytes_eq (x ∷ xs) [] = refl
same_part-bytes_eq (x ∷ xs) (y ∷ ys) = and_then (nat_eq x y) (same_part-bytes_eq xs ys)
