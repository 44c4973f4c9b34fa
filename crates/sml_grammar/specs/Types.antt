-- Types: which trees derive which tokens (the Definition, figure 3 and appendix A).
use Rattle.std.specs.Prelude.{ℕ, zero, suc, Bool, List, [], ◌∷◌, max, map}
use Rattle.tl_text.specs.declared.place.Place.{Place}
use Rattle.readers.specs.Language.{Both, That, Shows, As, Or, Skip, Close}
use Rattle.readers.specs.Room.{Room}
use Rattle.readers.specs.Forms.{Seps, Enclosed, Grown, any_tree, highest, height_of}
use Rattle.sml_lex.specs.declared.token.Token.{Token}
use Rattle.sml_ast.specs.declared.name.Lab.{Lab}
use Rattle.sml_ast.specs.declared.ty.Ty.{Ty, out-Ty, roll-Ty}
use Rattle.sml_ast.specs.declared.ty.Ty.TheOpen.{Ty-F}
use Rattle.sml_grammar.specs.Words.{OPEN_PAREN, CLOSE_PAREN, OPEN_BRACE, CLOSE_BRACE, COMMA, COLON, ARROW}
use Rattle.sml_grammar.specs.Tokens.{is, the, tyvar, lab, long_tycon, is_times}

-- ---- trees, with their heights beside them

abbrev pub Ident : Type 0
Ident = Place × List ℕ

abbrev pub LongIdent : Type 0
LongIdent = Place × List (List ℕ)

abbrev pub Label : Type 0
Label = Place × Lab

-- a type and its height
abbrev pub Tx : Type 0
Tx = Ty × ℕ

-- the trees alone
abbrev pub trees : {T : Type 0} → List (T × ℕ) → List T
trees = map (λ x. x.0)

abbrev pub place_in : Ty-F Ty → Place
place_in (Ty-F.Tyvar p v) = p
place_in (Ty-F.TFields p fields) = p
place_in (Ty-F.TCon p ts c) = p
place_in (Ty-F.TTuple p t ts) = p
place_in (Ty-F.Arrow p t u) = p
place_in (Ty-F.TParen p t) = p

-- the place of the first token
abbrev pub ty_place : Ty → Place
ty_place t = place_in (out-Ty t)

abbrev pub tyvar_of : Ident → Tx
tyvar_of v = (roll-Ty (Ty-F.Tyvar v.0 v), 1)

abbrev pub con_of : LongIdent → Tx
con_of c = (roll-Ty (Ty-F.TCon c.0 [] c), 1)

-- a field of a record type
abbrev pub Field : Type 0
Field = Label × Tx

abbrev pub field_height : Field → ℕ
field_height f = f.1.1

abbrev pub fields_of : Place × List Field → Tx
fields_of x = (roll-Ty (Ty-F.TFields x.0 (map (λ f. (f.0, f.1.0)) x.1)), suc (highest field_height x.1))

-- what follows a type behind a parenthesis: the other one, or further types and what they are put into
pub data Behind : Type 0 where
  Closed : Behind
  Args : List Tx × LongIdent → Behind

abbrev pub behind_height : Behind → ℕ
behind_height Behind.Closed = 0
behind_height (Behind.Args x) = highest height_of x.0

abbrev pub behind_of : Place → Ty → Behind → Ty
behind_of p t Behind.Closed = roll-Ty (Ty-F.TParen p t)
behind_of p t (Behind.Args x) = roll-Ty (Ty-F.TCon p (t ∷ trees x.0) x.1)

abbrev pub paren_of : Place × (Tx × Behind) → Tx
paren_of x = (behind_of x.0 x.1.0.0 x.1.1, suc (max x.1.0.1 (behind_height x.1.1)))

-- `t c`, `t * u * v`, `t -> u`
abbrev pub applied : Tx → LongIdent → Tx
applied t c = (roll-Ty (Ty-F.TCon (ty_place t.0) (t.0 ∷ []) c), suc t.1)

abbrev pub tupled : Tx → List Tx → Tx
tupled t ts = (roll-Ty (Ty-F.TTuple (ty_place t.0) t.0 (trees ts)), suc (max t.1 (highest height_of ts)))

abbrev pub mapped_to : Tx → Tx → Tx
mapped_to t u = (roll-Ty (Ty-F.Arrow (ty_place t.0) t.0 u.0), suc (max t.1 u.1))

-- ---- the grammar

-- lab : Ty
abbrev pub FieldD : (Tx → List Token → Type 0) → Field → List Token → Type 0
FieldD T = Both (Shows lab) (Skip (is COLON) T)

-- )  or  , {Ty}/, ) longtycon
abbrev pub BehindD : (Tx → List Token → Type 0) → Behind → List Token → Type 0
BehindD T = Or (As (λ u. Behind.Closed) (λ (u : Unit {0}). That (is CLOSE_PAREN)))
    (As Behind.Args (Skip (is COMMA) (Both (Close (Seps (is COMMA) T) (is CLOSE_PAREN)) (Shows long_tycon))))

-- Tyvar tyvar  |  TCon longtycon  |  TFields { [{lab : Ty}/,] }  |  TParen ( Ty ), TCon ( Ty , {Ty}/, ) longtycon
abbrev pub atom_form : (Tx → List Token → Type 0) → Tx → List Token → Type 0
atom_form T =
    Or (As tyvar_of (Shows tyvar))
    (Or (As con_of (Shows long_tycon))
    (Or (As fields_of (Both (Shows (the OPEN_BRACE)) (Enclosed (is COMMA) (FieldD T) (is CLOSE_BRACE))))
    (As paren_of (Both (Shows (the OPEN_PAREN)) (Both T (BehindD T))))))

-- the same  |  TCon Ty longtycon, with a type as tight
abbrev pub con_form : (Tx → List Token → Type 0) → (Tx → List Token → Type 0) → Tx → List Token → Type 0
con_form T C = Or (atom_form T) (As (λ x. applied x.0 x.1) (Grown any_tree C (Shows long_tycon)))

-- the same  |  TTuple Ty * {Ty}/*, with types that are tighter
abbrev pub tuple_form : (Tx → List Token → Type 0) → (Tx → List Token → Type 0) → Tx → List Token → Type 0
tuple_form T C = Or (con_form T C) (As (λ x. tupled x.0 x.1) (Grown any_tree C (Skip is_times (Seps is_times C))))

-- the same  |  Arrow Ty -> Ty, to the left of it what is tighter
abbrev pub ty_form : (Tx → List Token → Type 0) → (Tx → List Token → Type 0) → (Tx → List Token → Type 0) → Tx → List Token → Type 0
ty_form T C U = Or (tuple_form T C) (As (λ x. mapped_to x.0 x.1) (Grown any_tree U (Skip (is ARROW) T)))

-- a type of this height, which is at most the first, derives the tokens: one that is no tuple or arrow, one that is no arrow, any
unfoldable mutual
  pub con_on : ℕ → Tx → List Token → Type 0
  con_on zero t w = ⊥
  con_on (suc h) t w = con_form (ty_on h) (con_on h) t w

  pub tuple_on : ℕ → Tx → List Token → Type 0
  tuple_on zero t w = ⊥
  tuple_on (suc h) t w = tuple_form (ty_on h) (con_on h) t w

  pub ty_on : ℕ → Tx → List Token → Type 0
  ty_on zero t w = ⊥
  ty_on (suc h) t w = ty_form (ty_on h) (con_on h) (tuple_on h) t w

-- the same in a room
abbrev pub ConR : Room → Tx → List Token → Type 0
ConR r = con_on r.height

abbrev pub TupleR : Room → Tx → List Token → Type 0
TupleR r = tuple_on r.height

abbrev pub TyR : Room → Tx → List Token → Type 0
TyR r = ty_on r.height
