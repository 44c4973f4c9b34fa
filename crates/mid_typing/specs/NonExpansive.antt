-- The right sides that may be generalised: a literal, a variable, a constructor, a primitive, a function, a record of
-- such, and a constructor other than ref applied to such -- [Definition, section 4.7].
use Rattle.std.specs.Prelude.{◌==◌, not, IsTrue}
use Rattle.sml_static.specs.Equality.{ref_number}
use Rattle.sml_static.specs.Shapes.{datatype_of}
use Rattle.mid_ast.specs.Tree.{Exp, Const, Local, Home, Con, Prim, Tuple, Apply, Fun, Raise, Handle, Let, Exps, NoExps, MoreExps}

-- a constructor other than ref
abbrev pub IsMaker : Exp → Type 0
IsMaker (Con q t) = IsTrue (not (datatype_of t == ref_number))
IsMaker (Const l) = ⊥
IsMaker (Local x t ds) = ⊥
IsMaker (Home q t ds) = ⊥
IsMaker (Prim n t ds) = ⊥
IsMaker (Tuple es) = ⊥
IsMaker (Apply f a) = ⊥
IsMaker (Fun rs a b) = ⊥
IsMaker (Raise a t) = ⊥
IsMaker (Handle a rs) = ⊥
IsMaker (Let ds a) = ⊥

abbrev mutual
  pub NonExpansive : Exp → Type 0
  NonExpansive (Const l) = Unit {0}
  NonExpansive (Local x t ds) = Unit {0}
  NonExpansive (Home q t ds) = Unit {0}
  NonExpansive (Con q t) = Unit {0}
  NonExpansive (Prim n t ds) = Unit {0}
  NonExpansive (Fun rs a b) = Unit {0}
  NonExpansive (Tuple es) = AllNonExpansive es
  NonExpansive (Apply f a) = IsMaker f × NonExpansive a
  NonExpansive (Raise a t) = ⊥
  NonExpansive (Handle a rs) = ⊥
  NonExpansive (Let ds a) = ⊥

  pub AllNonExpansive : Exps → Type 0
  AllNonExpansive NoExps = Unit {0}
  AllNonExpansive (MoreExps e es) = NonExpansive e × AllNonExpansive es
