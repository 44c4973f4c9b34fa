-- Signature expressions and specifications: which trees derive which tokens (the Definition, figures 6, 7 and 19).
use Rattle.std.specs.Prelude.{ℕ, zero, suc, Bool, true, false, List, [], ◌∷◌, Option, Some, None, max, map}
use Rattle.tl_text.specs.declared.place.Place.{Place}
use Rattle.readers.specs.Language.{Both, That, Shows, Row, As, Or, Skip, Close}
use Rattle.readers.specs.Room.{Room}
use Rattle.readers.specs.Forms.{Seps, Grown, any_tree, highest, height_of}
use Rattle.sml_lex.specs.declared.token.Token.{Token}
use Rattle.sml_ast.specs.declared.sig.SigExp.{SigExp, out-SigExp, roll-SigExp}
use Rattle.sml_ast.specs.declared.sig.SigExp.TheOpen.{SigExp-F, Spec-F}
use Rattle.sml_ast.specs.declared.sig.Spec.{Spec, roll-Spec}
use Rattle.sml_grammar.specs.Words.{AND, CLOSE_PAREN, COLON, DATATYPE, END, EQTYPE, EQUALS, EXCEPTION, INCLUDE, OPEN_PAREN, SEMICOLON, SHARING, SIG, STRUCTURE, TYPE, VAL, WHERE}
use Rattle.sml_grammar.specs.Tokens.{is, the, any_vid, long_strid, long_tycon, strid, tycon}
use Rattle.sml_grammar.specs.Types.{Ident, LongIdent, Tx, trees, ty_on}
use Rattle.sml_grammar_sig.specs.Descs.{Named, Tb, Re, Co, Cs, Dd, Many, NamedD, TyBindD, RealBindD, ConD, DescD, cons_on}

-- ---- trees, with their heights beside them

-- a signature expression, and a specification
abbrev pub Sx : Type 0
Sx = SigExp × ℕ

abbrev pub Sp : Type 0
Sp = Spec × ℕ

abbrev pub place_in : SigExp-F SigExp Spec → Place
place_in (SigExp-F.Specs p specs) = p
place_in (SigExp-F.SigAt p v) = p
place_in (SigExp-F.Real p q s vs c t) = p

-- the place of the first token
abbrev pub sig_place : SigExp → Place
sig_place s = place_in (out-SigExp s)

abbrev pub where_in : SigExp-F SigExp Spec → Option Place
where_in (SigExp-F.Real p q s vs c t) = Some q
where_in _ = None

-- the place of the `where` that it ends with, if it does
abbrev pub where_place : SigExp → Option Place
where_place s = where_in (out-SigExp s)

abbrev pub ends_with_where : Option Place → Bool
ends_with_where None = false
ends_with_where (Some q) = true

abbrev pub is_real : Sx → Bool
is_real s = ends_with_where (where_place s.0)

abbrev pub specs_of : Place × List Sp → Sx
specs_of x = (roll-SigExp (SigExp-F.Specs x.0 (trees x.1)), suc (highest height_of x.1))

abbrev pub sig_at : Ident → Sx
sig_at v = (roll-SigExp (SigExp-F.SigAt v.0 v), 1)

-- with a type behind this `where`
abbrev pub real_of : Sx → Place × Re → Sx
real_of s x = (roll-SigExp (SigExp-F.Real (sig_place s.0) x.0 s.0 x.1.0.0 x.1.0.1 x.1.0.2), max (suc s.1) x.1.1)

abbrev pub or_else : Option Place → Place → Place
or_else None p = p
or_else (Some q) p = q

-- with a further type behind the `where` that it ends with
abbrev pub further_of : Sx → Re → Sx
further_of s b = real_of s (or_else (where_place s.0) (sig_place s.0), b)

-- a value with its type, and an identifier with its signature, which are no nodes
abbrev pub Vs : Type 0
Vs = Ident × Tx

abbrev pub Ss : Type 0
Ss = Ident × Sx

abbrev pub part_height : {X Y : Type 0} → X × (Y × ℕ) → ℕ
part_height x = x.1.1

abbrev pub without_height : {X Y : Type 0} → X × (Y × ℕ) → X × Y
without_height x = (x.0, x.1.0)

abbrev pub vals_of : Place × List Vs → Sp
vals_of x = (roll-Spec (Spec-F.ValSpec x.0 (map without_height x.1)), suc (highest part_height x.1))

abbrev pub eqtypes_of : Place × List Named → Sp
eqtypes_of x = (roll-Spec (Spec-F.EqSpec x.0 x.1), 1)

abbrev pub tys_of : Place × List Named → Sp
tys_of x = (roll-Spec (Spec-F.TySpec x.0 x.1), 1)

abbrev pub syns_of : Place × List Tb → Sp
syns_of x = (roll-Spec (Spec-F.SynSpec x.0 (trees x.1)), suc (highest height_of x.1))

abbrev pub copy_of : Place × (Ident × LongIdent) → Sp
copy_of x = (roll-Spec (Spec-F.CopySpec x.0 x.1.0 x.1.1), 1)

abbrev pub datas_of : Place × List Dd → Sp
datas_of x = (roll-Spec (Spec-F.DataSpec x.0 (trees x.1)), suc (highest height_of x.1))

abbrev pub exns_of : Place × List Co → Sp
exns_of x = (roll-Spec (Spec-F.ExnSpec x.0 (trees x.1)), suc (highest height_of x.1))

abbrev pub strs_of : Place × List Ss → Sp
strs_of x = (roll-Spec (Spec-F.StrSpec x.0 (map without_height x.1)), suc (highest part_height x.1))

abbrev pub incl_of : Place × Sx → Sp
incl_of x = (roll-Spec (Spec-F.Incl x.0 x.1.0), suc x.1.1)

abbrev pub incls_of : Place × (Ident × List Ident) → Sp
incls_of x = (roll-Spec (Spec-F.Incls x.0 (x.1.0 ∷ x.1.1)), 1)

-- what `sharing` makes equal: types or structures
pub data Shared : Type 0 where
  OfTypes : LongIdent × List LongIdent → Shared
  OfStructures : LongIdent × List LongIdent → Shared

abbrev pub sharing_in : Place → Shared → Spec
sharing_in p (Shared.OfTypes x) = roll-Spec (Spec-F.ShareTy p x.0 x.1)
sharing_in p (Shared.OfStructures x) = roll-Spec (Spec-F.ShareStr p x.0 x.1)

abbrev pub sharing_of : Place × Shared → Sp
sharing_of x = (sharing_in x.0 x.1, 1)

-- ---- signature expressions

-- Specs sig {Spec [;]} end  |  SigAt sigid
abbrev pub head_form : (List Sp → List Token → Type 0) → Sx → List Token → Type 0
head_form D = Or (As specs_of (Both (Shows (the SIG)) (Close D (is END)))) (As sig_at (Shows strid))

-- where type [tyvarseq] longtycon = Ty
abbrev pub WhereD : (Re → List Token → Type 0) → Place × Re → List Token → Type 0
WhereD R = Both (Shows (the WHERE)) (Skip (is TYPE) R)

-- and type [tyvarseq] longtycon = Ty
abbrev pub AndD : (Re → List Token → Type 0) → Re → List Token → Type 0
AndD R = Skip (is AND) (Skip (is TYPE) R)

-- Specs, SigAt  |  Real SigExp where type ..  |  Real SigExp and type .., behind a `where`
abbrev pub sig_form : (Sx → List Token → Type 0) → (Sx → List Token → Type 0) → (Re → List Token → Type 0) → Sx → List Token → Type 0
sig_form A S R =
    Or A
    (Or (As (λ x. real_of x.0 x.1) (Grown any_tree S (WhereD R)))
    (As (λ x. further_of x.0 x.1) (Grown is_real S (AndD R))))

-- ---- specifications

-- vid : Ty
abbrev pub ValD : (Tx → List Token → Type 0) → Vs → List Token → Type 0
ValD T = Both (Shows any_vid) (Skip (is COLON) T)

-- ValSpec val {vid : Ty}/and
abbrev pub ValsD : (Tx → List Token → Type 0) → Sp → List Token → Type 0
ValsD T = As vals_of (Both (Shows (the VAL)) (Seps (is AND) (ValD T)))

-- EqSpec eqtype {[tyvarseq] tycon}/and
abbrev pub EqTypesD : Sp → List Token → Type 0
EqTypesD = As eqtypes_of (Both (Shows (the EQTYPE)) (Seps (is AND) NamedD))

-- TySpec type {[tyvarseq] tycon}/and
abbrev pub TysD : Sp → List Token → Type 0
TysD = As tys_of (Both (Shows (the TYPE)) (Seps (is AND) NamedD))

-- SynSpec type {[tyvarseq] tycon = Ty}/and
abbrev pub SynsD : (Tx → List Token → Type 0) → Sp → List Token → Type 0
SynsD T = As syns_of (Both (Shows (the TYPE)) (Seps (is AND) (TyBindD T)))

-- CopySpec datatype tycon = datatype longtycon
abbrev pub CopyD : Sp → List Token → Type 0
CopyD = As copy_of (Both (Shows (the DATATYPE)) (Both (Shows tycon) (Skip (is EQUALS) (Skip (is DATATYPE) (Shows long_tycon)))))

-- DataSpec datatype {DatDesc}/and
abbrev pub DatasD : (Cs → List Token → Type 0) → Sp → List Token → Type 0
DatasD C = As datas_of (Both (Shows (the DATATYPE)) (Seps (is AND) (DescD C)))

-- ExnSpec exception {vid [of Ty]}/and
abbrev pub ExnsD : (Tx → List Token → Type 0) → Sp → List Token → Type 0
ExnsD T = As exns_of (Both (Shows (the EXCEPTION)) (Seps (is AND) (ConD T)))

-- an identifier, the word and SigExp
abbrev pub BoundD : ℕ → (Sx → List Token → Type 0) → Ss → List Token → Type 0
BoundD word S = Both (Shows strid) (Skip (is word) S)

-- StrSpec structure {strid : SigExp}/and
abbrev pub StrsD : (Sx → List Token → Type 0) → Sp → List Token → Type 0
StrsD S = As strs_of (Both (Shows (the STRUCTURE)) (Seps (is AND) (BoundD COLON S)))

-- Incl include SigExp  |  Incls include sigid {sigid}+
abbrev pub IncludeD : (Sx → List Token → Type 0) → Sp → List Token → Type 0
IncludeD S = Or (As incl_of (Both (Shows (the INCLUDE)) S)) (As incls_of (Both (Shows (the INCLUDE)) (Both (Shows strid) (Many (Shows strid)))))

-- a part = {part}/=
abbrev pub EqualD : (LongIdent → List Token → Type 0) → LongIdent × List LongIdent → List Token → Type 0
EqualD D = Both D (Skip (is EQUALS) (Seps (is EQUALS) D))

-- ShareTy sharing type longtycon = {longtycon}/=  |  ShareStr sharing longstrid = {longstrid}/=
abbrev pub SharingD : Sp → List Token → Type 0
SharingD = As sharing_of (Both (Shows (the SHARING))
    (Or (As Shared.OfTypes (Skip (is TYPE) (EqualD (Shows long_tycon)))) (As Shared.OfStructures (EqualD (Shows long_strid)))))

-- EqSpec  |  ShareTy, ShareStr  |  TySpec, SynSpec  |  CopySpec, DataSpec  |  ExnSpec  |  ValSpec  |  StrSpec
abbrev pub other_form : (Tx → List Token → Type 0) → (Cs → List Token → Type 0) → (Sx → List Token → Type 0) → Sp → List Token → Type 0
other_form T C S =
    Or EqTypesD
    (Or SharingD
    (Or (Or TysD (SynsD T))
    (Or (Or CopyD (DatasD C))
    (Or (ExnsD T)
    (Or (ValsD T)
    (StrsD S))))))

-- Incl, Incls  |  the others
abbrev pub spec_form : (Tx → List Token → Type 0) → (Cs → List Token → Type 0) → (Sx → List Token → Type 0) → Sp → List Token → Type 0
spec_form T C S = Or (IncludeD S) (other_form T C S)

-- ---- rows of specifications

abbrev pub some_spec : Sp → Option Sp
some_spec t = Some t

abbrev pub no_spec : Unit {0} → Option Sp
no_spec u = None

abbrev pub present : List (Option Sp) → List Sp
present [] = []
present (None ∷ xs) = present xs
present (Some t ∷ xs) = t ∷ present xs

-- ;  |  Spec
abbrev pub ItemD : (Sp → List Token → Type 0) → Option Sp → List Token → Type 0
ItemD D = Or (As no_spec (λ u. That (is SEMICOLON))) (As some_spec D)

-- {Spec [;]}: specifications, with any number of semicolons before, between and behind them
abbrev pub specs_form : (Sp → List Token → Type 0) → List Sp → List Token → Type 0
specs_form D = As present (Row (ItemD D))

-- ---- all heights

-- a tree of this height, which is at most the first, derives the tokens: a signature expression without `where`, any, a specification
unfoldable mutual
  pub head_on : ℕ → Sx → List Token → Type 0
  head_on zero t w = ⊥
  head_on (suc h) t w = head_form (specs_form (spec_on h)) t w

  pub sig_on : ℕ → Sx → List Token → Type 0
  sig_on zero t w = ⊥
  sig_on (suc h) t w = sig_form (head_form (specs_form (spec_on h))) (sig_on h) (RealBindD (ty_on h)) t w

  pub spec_on : ℕ → Sp → List Token → Type 0
  spec_on zero t w = ⊥
  spec_on (suc h) t w = spec_form (ty_on h) (cons_on h) (sig_on h) t w

-- the same in a room
abbrev pub HeadR : Room → Sx → List Token → Type 0
HeadR r = head_on r.height

abbrev pub SigR : Room → Sx → List Token → Type 0
SigR r = sig_on r.height

abbrev pub SpecR : Room → Sp → List Token → Type 0
SpecR r = spec_on r.height

-- a row of specifications
abbrev pub SpecsR : Room → List Sp → List Token → Type 0
SpecsR r = specs_form (SpecR r)

-- ( {Spec [;]} )
abbrev pub EnclosedR : Room → Place × List Sp → List Token → Type 0
EnclosedR r = Both (Shows (the OPEN_PAREN)) (Close (SpecsR r) (is CLOSE_PAREN))
