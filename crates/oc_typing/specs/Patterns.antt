-- Which patterns have which types, and what they bind (the OCaml manual, section 11.6).
use Rattle.std.specs.Prelude.{◌≡◌, ℕ, Option, Some, None}
use Rattle.oc_ast.specs.declared.literal.OcLit.{OcLit}
use Rattle.oc_ast.specs.declared.literal.OcLit.TheVariants as lit
use Rattle.oc_ast.specs.Plain.{PAPat, Any, PVar, PConst, PCon, PUnit, PParen, PTuple, PNil, PCell, PAPats, NoPats, MorePats, PPat, PAt, PBuild, PCons, PAs}
use Rattle.oc_typing.specs.Ty.{Ty, Tys, Product, NoTypes, MoreTypes, Instance, IsClosed, inst, int, char, string, unit, list, ref}
use Rattle.oc_typing.specs.Env.{ConTy, Env, con_at}
use Rattle.oc_typing.specs.Variables.{Vars, NoVars, OneVar, joined}

abbrev pub literal_type : OcLit → Ty
literal_type (lit.Int z) = int
literal_type (lit.Char c) = char
literal_type (lit.Text s) = string

-- the constructor makes a t at some instance, and has no argument; or it has one of the type a
abbrev pub ConHas : Option ConTy → Option Ty → Ty → Type 0
ConHas None a t = ⊥
ConHas (Some c) None t = (c.arg ≡ None) × Instance c.made t
ConHas (Some c) (Some a) t =
    (u : Ty) × (us : ℕ → Ty) × ((i : ℕ) → IsClosed (us i)) × (c.arg ≡ Some u) × (a ≡ inst us u) × (t ≡ inst us c.made)

-- in g the pattern takes values of the type t and binds bs
abbrev mutual
  pub APatTypes : Env → PAPat → Ty → Vars → Type 0
  APatTypes g Any t bs = bs ≡ NoVars
  APatTypes g (PVar x) t bs = bs ≡ OneVar x t NoVars
  APatTypes g (PConst l) t bs = (t ≡ literal_type l) × (bs ≡ NoVars)
  APatTypes g (PCon q) t bs = ConHas (con_at q g) None t × (bs ≡ NoVars)
  APatTypes g PUnit t bs = (t ≡ unit) × (bs ≡ NoVars)
  APatTypes g (PParen p) t bs = PatTypes g p t bs
  APatTypes g (PTuple p ps) t bs =
      (u : Ty) × (us : Tys) × (cs : Vars) × (ds : Vars) × APatTypes g p u cs × APatsType g ps us ds × (t ≡ Product (MoreTypes u us))
      × (bs ≡ joined cs ds)
  APatTypes g PNil t bs = (u : Ty) × (t ≡ list u) × (bs ≡ NoVars)
  APatTypes g (PCell p) t bs = (u : Ty) × (t ≡ ref u) × PatTypes g p u bs

  pub APatsType : Env → PAPats → Tys → Vars → Type 0
  APatsType g NoPats ts bs = (ts ≡ NoTypes) × (bs ≡ NoVars)
  APatsType g (MorePats p ps) ts bs =
      (u : Ty) × (us : Tys) × (cs : Vars) × (ds : Vars) × APatTypes g p u cs × APatsType g ps us ds × (ts ≡ MoreTypes u us)
      × (bs ≡ joined cs ds)

  pub PatTypes : Env → PPat → Ty → Vars → Type 0
  PatTypes g (PAt p) t bs = APatTypes g p t bs
  PatTypes g (PBuild q p) t bs = (a : Ty) × ConHas (con_at q g) (Some a) t × APatTypes g p a bs
  PatTypes g (PCons p q) t bs =
      (u : Ty) × (cs : Vars) × (ds : Vars) × (t ≡ list u) × APatTypes g p u cs × APatTypes g q (list u) ds × (bs ≡ joined cs ds)
  PatTypes g (PAs p x) t bs = (cs : Vars) × APatTypes g p t cs × (bs ≡ OneVar x t cs)
