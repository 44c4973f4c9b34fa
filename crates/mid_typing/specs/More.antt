-- Environments with more bound, and rows of items one after another.
use Rattle.std.specs.Prelude.{◌≡◌, ℕ, [], Some}
use Rattle.mid_ast.specs.Tree.{Name, Items, NoItems, MoreItems, Binds, NoBinds, MoreBinds, Dec, Vals, Funs, Datas, Alias, NewExn, SameExn}
use Rattle.mid_typing.specs.NonExpansive.{NonExpansive}
use Rattle.mid_typing.specs.Env.{Entry, Env, TyEntry, Vid, binder_at, local_at, mod_at, type_at, vid_at}

-- what is bound in g is bound so in h
pub record More (g h : Env) : Type 0 where
  pub locals : (x : ℕ) (v : Entry) → local_at x g ≡ Some v → local_at x h ≡ Some v
  pub binders : (q : Name) (v : Entry) → binder_at q g ≡ Some v → binder_at q h ≡ Some v
  pub vids : (q : Name) (v : Vid) → vid_at q g ≡ Some v → vid_at q h ≡ Some v
  pub types : (q : Name) (t : TyEntry) → type_at q g ≡ Some t → type_at q h ≡ Some t
  pub mods : (q : Name) (b : Env) → mod_at q g ≡ Some b → mod_at q h ≡ Some b

-- one row after another
abbrev pub after : Items → Items → Items
after NoItems js = js
after (MoreItems i is) js = MoreItems i (after is js)

-- each right side with type variables of its own is not expansive
abbrev pub EachIsStill : Binds → Type 0
EachIsStill NoBinds = Unit {0}
EachIsStill (MoreBinds p vars e more) = ((vars ≡ [] → ⊥) → NonExpansive e) × EachIsStill more

abbrev pub EachGeneralIsStill : Dec → Type 0
EachGeneralIsStill (Vals bs) = EachIsStill bs
EachGeneralIsStill (Funs bs) = EachIsStill bs
EachGeneralIsStill (Datas ds) = Unit {0}
EachGeneralIsStill (Alias q f) = Unit {0}
EachGeneralIsStill (NewExn q a) = Unit {0}
EachGeneralIsStill (SameExn q r) = Unit {0}
