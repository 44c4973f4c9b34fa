-- Well-formed types, environments, realisations and signatures.
use Rattle.std.specs.Prelude.{◌≡◌, ◌==◌, ◌&&◌, ℕ, nat_lt, length, Bool, true, false, not, IsTrue, List, [], ◌∷◌, map, All, Some}
use Rattle.std.specs.List.{list_all, list_any, range_with_len}
use Rattle.std.specs.Str.{bytes_eq}
use Rattle.tl_text.specs.Pairs.{seconds}
use Rattle.sml_static.specs.declared.ty.Ty.{Ty, fold-Ty}
use Rattle.sml_static.specs.declared.ty.Ty.TheOpen.{Ty-F}
use Rattle.sml_static.specs.declared.ty.Ty.TheVariants as ty
use Rattle.sml_static.specs.declared.ty.TyName.{TyName}
use Rattle.sml_static.specs.declared.ty.TyFun.{TyFun}
use Rattle.sml_static.specs.declared.ty.Scheme.{Scheme}
use Rattle.sml_static.specs.declared.env.Status.{Status}
use Rattle.sml_static.specs.declared.env.Status.TheVariants as status
use Rattle.sml_static.specs.declared.env.Env.{Env, fold-Env}
use Rattle.sml_static.specs.declared.env.Env.TheOpen.{Env-F}
use Rattle.sml_static.specs.declared.env.Sig.{Sig}
use Rattle.sml_static.specs.Labels.{labels, is_increasing}
use Rattle.sml_static.specs.Lookups.{tycon_at}

-- the arity and the equality of each type name, by its number
pub record Numbering : Type 0 where
  pub arity : ℕ → ℕ
  pub equality : ℕ → Bool

-- one with the fixed names: int, word, char, string, bool, exn, list, ref, option and order have the numbers 0 to 9
pub record HasFixedNames (names : Numbering) : Type 0 where
  pub arities : map names.arity (range_with_len 0 10) ≡ 0 ∷ 0 ∷ 0 ∷ 0 ∷ 0 ∷ 0 ∷ 1 ∷ 1 ∷ 1 ∷ 0 ∷ []
  pub equalities : map names.equality (range_with_len 0 10) ≡ true ∷ true ∷ true ∷ true ∷ true ∷ false ∷ true ∷ true ∷ true ∷ true ∷ []

-- whether two tests have one answer
abbrev pub agrees : Bool → Bool → Bool
agrees true b = b
agrees false b = not b

-- whether a type name has the arity and the equality of its number
abbrev pub is_numbered : Numbering → TyName → Bool
is_numbered names name = (names.arity name.id == name.arity) && agrees (names.equality name.id) name.equality

-- one level of `is_well_formed`
abbrev pub well_formed_step : Numbering → ℕ → Ty-F Bool → Bool
well_formed_step names places (Ty-F.Free n) = true
well_formed_step names places (Ty-F.Bound i) = nat_lt i places
well_formed_step names places (Ty-F.Fields fields) = is_increasing (labels fields) && list_all (λ f. f) (seconds fields)
well_formed_step names places (Ty-F.Arrow a b) = a && b
well_formed_step names places (Ty-F.Con name args) = is_numbered names name && (length args == name.arity) && list_all (λ a. a) args

-- whether a type has as many arguments at each name as it takes, its fields in order, and bound variables below `places` alone
abbrev pub is_well_formed : Numbering → ℕ → Ty → Bool
is_well_formed names places = fold-Ty Bool (well_formed_step names places)

-- whether a type function is so
abbrev pub is_function : Numbering → TyFun → Bool
is_function names f = is_well_formed names f.arity f.body

-- whether a scheme is so
abbrev pub is_scheme : Numbering → Scheme → Bool
is_scheme names s = is_well_formed names (length s.vars) s.body

-- whether a scheme has one variable where its identifier is overloaded
abbrev pub fits_status : Status → Scheme → Bool
fits_status (status.Over class) s = length s.vars == 1
fits_status status.Variable s = true
fits_status status.Constructor s = true
fits_status status.Exception s = true

-- whether no name stands twice
abbrev pub are_distinct : List (List ℕ) → Bool
are_distinct [] = true
are_distinct (n ∷ ns) = not (list_any (bytes_eq n) ns) && are_distinct ns

-- whether a realisation's pairs have each name once, with a type function of its arity
abbrev pub names_once : List (TyName × TyFun) → Bool
names_once [] = true
names_once (p ∷ ps) = not (list_any (λ q. q.0.id == p.0.id) ps) && names_once ps

abbrev pub is_realisation : Numbering → List (TyName × TyFun) → Bool
is_realisation names pairs =
    names_once pairs && list_all (λ p. is_numbered names p.0 && (p.0.arity == p.1.arity) && is_function names p.1) pairs

-- one level of `is_environment`
abbrev pub environment_step : Numbering → Env-F Bool → Bool
environment_step names e =
    are_distinct (map (λ v. v.0) e.vals) && are_distinct (map (λ t. t.0) e.tycons) && are_distinct (map (λ s. s.0) e.strs)
    && list_all (λ v. is_scheme names v.2 && fits_status v.1 v.2) e.vals
    && list_all (λ t. is_function names t.1 && are_distinct (map (λ c. c.0) t.2) && list_all (λ c. is_scheme names c.1) t.2) e.tycons
    && list_all (λ s. s) (seconds e.strs)

-- whether an environment has names once and well-formed types throughout
abbrev pub is_environment : Numbering → Env → Bool
is_environment names = fold-Env Bool (environment_step names)

-- the type function that is a type name alone
abbrev pub alone : TyName → TyFun
alone name = record { arity = name.arity; body = ty.Con name (map ty.Bound (range_with_len 0 name.arity)) }

-- the environment has a type component, at some path, that is this type name alone
abbrev pub HasComponent : Env → TyName → Type 0
HasComponent e name = (path : List (List ℕ)) × (t : List ℕ × TyFun × List (List ℕ × Scheme)) × (tycon_at e path ≡ Some t) × (t.1 ≡ alone name)

-- a signature is well-formed, and its environment has each bound name as a component
pub record IsSignature (names : Numbering) (sig : Sig) : Type 0 where
  pub env : IsTrue (is_environment names sig.env)
  pub bound : All (λ n. IsTrue (is_numbered names n) × HasComponent sig.env n) sig.bound
