-- Which patterns have which types, and what they bind -- [Definition, section 4.10, patterns].
use Rattle.std.specs.Prelude.{◌≡◌, ◌++◌, ℕ, IsTrue, List, [], ◌∷◌, length, Option, Some, None}
use Rattle.tl_text.specs.Pairs.{seconds}
use Rattle.sml_static.specs.declared.ty.Label.{Label}
use Rattle.sml_static.specs.declared.ty.Scheme.{Scheme}
use Rattle.sml_static.specs.declared.ty.Ty.{Ty}
use Rattle.sml_static.specs.declared.ty.Ty.TheVariants as ty
use Rattle.sml_static.specs.declared.ty.VarKind.{VarKind}
use Rattle.sml_static.specs.Labels.{labels, is_increasing}
use Rattle.sml_static.specs.Schemes.{IsInstance}
use Rattle.mid_ast.specs.Tree.{Part, Pat, Any, PLit, PVar, PCon, PConOf, PTuple, PLayer, PCell, PFlex, Pats, NoPats, MorePats}
use Rattle.mid_typing.specs.Types.{IsTypeAt, arrow, kind_at, literal_type, no_free, ref}
use Rattle.mid_typing.specs.Env.{Env, General, AddLocal, Vid, Variable, Constructor, Exception, vid_at}
use Rattle.mid_typing.specs.Dicts.{Setting}

-- a variable of a pattern: its binder's number, its identifier and its type
pub record Binder : Type 0 where
  pub number : ℕ
  pub name : Part
  pub type : Ty

-- their binders, with types whose variables from n on are of these kinds and are generalised
abbrev pub put_binders : ℕ → List VarKind → List Binder → Env → Env
put_binders n vars [] e = e
put_binders n vars (x ∷ xs) e = AddLocal x.number x.name (General n vars x.type) (put_binders n vars xs e)

-- the path is a constructor of a datatype of n constructors, or for n = 0 an exception, with this scheme
abbrev pub IsConstructor : Option Vid → ℕ → Scheme → Type 0
IsConstructor None n scheme = ⊥
IsConstructor (Some (Variable s)) n scheme = ⊥
IsConstructor (Some (Constructor m s)) n scheme = (n ≡ m) × (scheme ≡ s)
IsConstructor (Some (Exception s)) n scheme = (n ≡ 0) × (scheme ≡ s)

-- the constructor may be used at the type
abbrev pub ConHas : List VarKind → Option Vid → ℕ → Ty → Type 0
ConHas ks v n t = (scheme : Scheme) × IsConstructor v n scheme × IsInstance no_free (kind_at ks) scheme t

-- In g, where type names below c are drawn and type variables of these kinds are in scope, the pattern takes values of the
-- type and binds these variables.
abbrev mutual
  pub PatHas : Setting → ℕ → Env → List VarKind → Pat → Ty → List Binder → Type 0
  PatHas s c g ks (Any w) t bs = (t ≡ w) × IsTypeAt s.names c (length ks) w × (bs ≡ [])
  PatHas s c g ks (PLit l) t bs = (t ≡ literal_type l) × (bs ≡ [])
  PatHas s c g ks (PVar x n w) t bs = (t ≡ w) × IsTypeAt s.names c (length ks) w × (bs ≡ record { number = x; name = n; type = w } ∷ [])
  PatHas s c g ks (PCon q w n) t bs = (t ≡ w) × IsTypeAt s.names c (length ks) w × ConHas ks (vid_at q g) n w × (bs ≡ [])
  PatHas s c g ks (PConOf q w n p) t bs =
      (u : Ty) × (w ≡ arrow u t) × IsTypeAt s.names c (length ks) w × ConHas ks (vid_at q g) n w × PatHas s c g ks p u bs
  PatHas s c g ks (PTuple ps) t bs =
      (fields : List (Label × Ty)) × (t ≡ ty.Fields fields) × IsTrue (is_increasing (labels fields)) × PatsHave s c g ks ps (seconds fields) bs
  PatHas s c g ks (PLayer x n p) t bs =
      (cs : List Binder) × PatHas s c g ks p t cs × IsTypeAt s.names c (length ks) t × (bs ≡ record { number = x; name = n; type = t } ∷ cs)
  PatHas s c g ks (PCell p) t bs = (u : Ty) × (t ≡ ref u) × PatHas s c g ks p u bs
  -- a flexible record stands in no unit
  PatHas s c g ks PFlex t bs = ⊥

  pub PatsHave : Setting → ℕ → Env → List VarKind → Pats → List Ty → List Binder → Type 0
  PatsHave s c g ks NoPats [] bs = bs ≡ []
  PatsHave s c g ks NoPats (t ∷ ts) bs = ⊥
  PatsHave s c g ks (MorePats p ps) [] bs = ⊥
  PatsHave s c g ks (MorePats p ps) (t ∷ ts) bs =
      (cs : List Binder) × (ds : List Binder) × PatHas s c g ks p t cs × PatsHave s c g ks ps ts ds × (bs ≡ cs ++ ds)
