-- Environments with more bound, and rows of items one after another.
use Rattle.std.specs.Prelude.{◌≡◌, Some}
use Rattle.oc_ast.specs.Plain.{Bytes, PItems, NoItems, MoreItems}
use Rattle.oc_typing.specs.Ty.{Ty}
use Rattle.oc_typing.specs.Env.{ConTy, Env, TyEntry, val_of, con_of, type_of, mod_of}

-- what is bound in g is bound so in h
pub record More (g h : Env) : Type 0 where
  pub vals : (x : Bytes) (u : Ty) → val_of x g ≡ Some u → val_of x h ≡ Some u
  pub cons : (x : Bytes) (c : ConTy) → con_of x g ≡ Some c → con_of x h ≡ Some c
  pub types : (x : Bytes) (d : TyEntry) → type_of x g ≡ Some d → type_of x h ≡ Some d
  pub mods : (x : Bytes) (b : Env) → mod_of x g ≡ Some b → mod_of x h ≡ Some b

-- one row after another
abbrev pub after : PItems → PItems → PItems
after NoItems js = js
after (MoreItems i is) js = MoreItems i (after is js)
