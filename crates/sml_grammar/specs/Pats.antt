-- Patterns: which trees derive which tokens, under which fixities (the Definition, figure 3 and appendix A).
use Rattle.std.specs.Prelude.{ℕ, zero, suc, Bool, true, false, List, [], ◌∷◌, Option, Some, None, max, if◌then◌else◌}
use Rattle.tl_text.specs.declared.place.Place.{Place}
use Rattle.tl_text.specs.declared.lit.Lit.{Lit}
use Rattle.readers.specs.Language.{Joined, Both, That, Shows, As, Or, Skip, Close}
use Rattle.readers.specs.Room.{Room}
use Rattle.readers.specs.Infix.{Left, AboveTop, floor_of}
use Rattle.readers.specs.Forms.{shown, Maybe, Seps, Ready, Enclosed, Grown, any_tree, highest, height_of}
use Rattle.sml_lex.specs.declared.token.Token.{Token}
use Rattle.sml_fix.specs.declared.fixities.Side.{Side}
use Rattle.sml_fix.specs.declared.fixities.Side.TheVariants.{Left as ToLeft, Right as ToRight}
use Rattle.sml_fix.specs.Fixities.{Settings}
use Rattle.sml_ast.specs.declared.ty.Ty.{Ty}
use Rattle.sml_ast.specs.declared.pat.AtPat.{AtPat, out-AtPat, roll-AtPat}
use Rattle.sml_ast.specs.declared.pat.AtPat.TheOpen.{AtPat-F, PField-F, Pat-F}
use Rattle.sml_ast.specs.declared.pat.PField.{PField, out-PField, roll-PField}
use Rattle.sml_ast.specs.declared.pat.Pat.{Pat, out-Pat, roll-Pat}
use Rattle.sml_grammar.specs.Words.{AS, OP, OPEN_PAREN, CLOSE_PAREN, OPEN_BRACKET, CLOSE_BRACKET, OPEN_BRACE, CLOSE_BRACE, COMMA, COLON, DOTS, WILDCARD, EQUALS}
use Rattle.sml_grammar.specs.Tokens.{Firsts, firsts, is, the, among, scon, label, ident, plain_names, long_vid, op_long_vid, vid, infix_vid, ALPHA, SYMBOL, STAR, DIGIT, NUMBER}
use Rattle.sml_grammar.specs.Types.{Ident, LongIdent, Label, Tx, ty_on, trees}

-- ---- fixities

abbrev pub tight_of : Option (ℕ × Side) → ℕ
tight_of None = 0
tight_of (Some s) = s.0

abbrev pub is_right : Side → Bool
is_right ToLeft = false
is_right ToRight = true

abbrev pub right_of : Option (ℕ × Side) → Bool
right_of None = false
right_of (Some s) = is_right s.1

-- how tight an operator binds, and whether to the right
abbrev pub tight : Settings → Ident → ℕ
tight fix v = tight_of (fix v.1)

abbrev pub right : Settings → Ident → Bool
right fix v = right_of (fix v.1)

-- ---- trees, with their heights beside them

abbrev pub Ap : Type 0
Ap = AtPat × ℕ

abbrev pub Fp : Type 0
Fp = PField × ℕ

abbrev pub Pt : Type 0
Pt = Pat × ℕ

abbrev pub at_place_in : AtPat-F AtPat PField Pat → Place
at_place_in (AtPat-F.Any p) = p
at_place_in (AtPat-F.PLit p l) = p
at_place_in (AtPat-F.PId p o x) = p
at_place_in (AtPat-F.PFields p fields) = p
at_place_in (AtPat-F.PUnit p) = p
at_place_in (AtPat-F.PTuple p q qs) = p
at_place_in (AtPat-F.PItems p qs) = p
at_place_in (AtPat-F.PParen p q) = p

abbrev pub pat_place_in : Pat-F AtPat PField Pat → Place
pat_place_in (Pat-F.PAtom p a) = p
pat_place_in (Pat-F.PCon p o c a) = p
pat_place_in (Pat-F.PInfix p q v r) = p
pat_place_in (Pat-F.PTyped p q t) = p
pat_place_in (Pat-F.Layer p o x t q) = p

-- the place of the first token
abbrev pub at_pat_place : AtPat → Place
at_pat_place a = at_place_in (out-AtPat a)

abbrev pub pat_place : Pat → Place
pat_place p = pat_place_in (out-Pat p)

-- a long identifier with its first token's place and whether `op` is before it, and the height of it as a pattern
abbrev pub Name : Type 0
Name = (Place × Bool × LongIdent) × ℕ

abbrev pub bare_of : LongIdent → Name
bare_of x = ((x.0, false, x), 1)

abbrev pub op_of : Place × LongIdent → Name
op_of x = ((x.0, true, x.1), 1)

abbrev pub id_of : Name → Ap
id_of n = (roll-AtPat (AtPat-F.PId n.0.0 n.0.1 n.0.2), n.1)

abbrev pub any_of : Place → Ap
any_of p = (roll-AtPat (AtPat-F.Any p), 1)

abbrev pub lit_of : Place × Lit → Ap
lit_of x = (roll-AtPat (AtPat-F.PLit x.0 x.1), 1)

abbrev pub fields_of : Place × List Fp → Ap
fields_of x = (roll-AtPat (AtPat-F.PFields x.0 (trees x.1)), suc (highest height_of x.1))

abbrev pub items_of : Place × List Pt → Ap
items_of x = (roll-AtPat (AtPat-F.PItems x.0 (trees x.1)), suc (highest height_of x.1))

-- what stands in parentheses: nothing, a pattern, or several
pub data Inside : Type 0 where
  Empty : Inside
  Parts : Pt × Option (List Pt) → Inside

abbrev pub more_height : Option (List Pt) → ℕ
more_height None = 0
more_height (Some qs) = highest height_of qs

abbrev pub inside_height : Inside → ℕ
inside_height Inside.Empty = 0
inside_height (Inside.Parts x) = max x.0.1 (more_height x.1)

abbrev pub parts_in : Place → Pt → Option (List Pt) → AtPat
parts_in p q None = roll-AtPat (AtPat-F.PParen p q.0)
parts_in p q (Some qs) = roll-AtPat (AtPat-F.PTuple p q.0 (trees qs))

abbrev pub inside_in : Place → Inside → AtPat
inside_in p Inside.Empty = roll-AtPat (AtPat-F.PUnit p)
inside_in p (Inside.Parts x) = parts_in p x.0 x.1

abbrev pub paren_of : Place × Inside → Ap
paren_of x = (inside_in x.0 x.1, suc (inside_height x.1))

-- what follows an identifier in a field: a type, a pattern, or both
pub data Tail : Type 0 where
  Typed : Tx × Option Pt → Tail
  Named : Pt → Tail
  Layered : Pt → Tail

abbrev pub opt_height : {T : Type 0} → Option (T × ℕ) → ℕ
opt_height None = 0
opt_height (Some x) = x.1

abbrev pub opt_tree : {T : Type 0} → Option (T × ℕ) → Option T
opt_tree None = None
opt_tree (Some x) = Some x.0

abbrev pub tail_height : Tail → ℕ
tail_height (Tail.Typed x) = max x.0.1 (opt_height x.1)
tail_height (Tail.Named q) = q.1
tail_height (Tail.Layered q) = q.1

abbrev pub tails_height : Option Tail → ℕ
tails_height None = 0
tails_height (Some x) = tail_height x

abbrev pub field_in : Label → Ident → Option Tail → PField
field_in l x None = roll-PField (PField-F.Pun x.0 x None None)
field_in l x (Some (Tail.Typed y)) = roll-PField (PField-F.Pun x.0 x (Some y.0.0) (opt_tree y.1))
field_in l x (Some (Tail.Named q)) = roll-PField (PField-F.Named l.0 l q.0)
field_in l x (Some (Tail.Layered q)) = roll-PField (PField-F.Pun x.0 x None (Some q.0))

abbrev pub rest_of : Place → Fp
rest_of p = (roll-PField (PField-F.Rest p), 1)

abbrev pub vid_field_of : (Label × Ident) × Option Tail → Fp
vid_field_of x = (field_in x.0.0 x.0.1 x.1, suc (tails_height x.1))

abbrev pub named_of : Label × Pt → Fp
named_of x = (roll-PField (PField-F.Named x.0.0 x.0 x.1.0), suc x.1.1)

abbrev pub is_rest_in : PField-F AtPat PField Pat → Bool
is_rest_in (PField-F.Rest p) = true
is_rest_in _ = false

abbrev pub goes_on : Fp → Bool
goes_on x = if is_rest_in (out-PField x.0) then false else true

-- an operand: an identifier, perhaps with an argument, or another atom
pub data Operand : Type 0 where
  Con : Name × Option Ap → Operand
  Atom : Ap → Operand

abbrev pub operand_height : Operand → ℕ
operand_height (Operand.Con x) = max x.0.1 (opt_height x.1)
operand_height (Operand.Atom a) = a.1

abbrev pub con_in : Name → Option Ap → Pat
con_in n None = roll-Pat (Pat-F.PAtom n.0.0 (id_of n).0)
con_in n (Some a) = roll-Pat (Pat-F.PCon n.0.0 n.0.1 n.0.2 a.0)

abbrev pub operand_in : Operand → Pat
operand_in (Operand.Con x) = con_in x.0 x.1
operand_in (Operand.Atom a) = roll-Pat (Pat-F.PAtom (at_pat_place a.0) a.0)

abbrev pub operand_of : Operand → Pt
operand_of x = (operand_in x, suc (operand_height x))

abbrev pub infix_of : Pt → Ident → Pt → Pt
infix_of l v r = (roll-Pat (Pat-F.PInfix (pat_place l.0) l.0 v r.0), suc (max l.1 r.1))

abbrev pub infixed : Pt × (Ident × Pt) → Pt
infixed x = infix_of x.0 x.1.0 x.1.1

abbrev pub top_in : Pat-F AtPat PField Pat → Option Ident
top_in (Pat-F.PInfix p q v r) = Some v
top_in _ = None

-- the operator at the top
abbrev pub top : Pt → Option Ident
top x = top_in (out-Pat x.0)

abbrev pub typed_of : Pt → Tx → Pt
typed_of x t = (roll-Pat (Pat-F.PTyped (pat_place x.0) x.0 t.0), suc (max x.1 t.1))

-- `x`, `op x`, `x : t`, `op x : t`: what may stand before `as`
abbrev pub Bare : Type 0
Bare = Bool × Ident × Option Ty

abbrev pub bare_id : Option Ty → AtPat-F AtPat PField Pat → Option Bare
bare_id t (AtPat-F.PId p o (q, v ∷ [])) = Some (o, (q, v), t)
bare_id t _ = None

abbrev pub bare_atom : Option Ty → Pat-F AtPat PField Pat → Option Bare
bare_atom t (Pat-F.PAtom p a) = bare_id t (out-AtPat a)
bare_atom t _ = None

abbrev pub bare_in : Pat-F AtPat PField Pat → Option Bare
bare_in (Pat-F.PAtom p a) = bare_id None (out-AtPat a)
bare_in (Pat-F.PTyped p q t) = bare_atom (Some t) (out-Pat q)
bare_in _ = None

abbrev pub bare : Pt → Option Bare
bare x = bare_in (out-Pat x.0)

abbrev pub some_bare : Option Bare → Bool
some_bare None = false
some_bare (Some b) = true

abbrev pub is_bare : Pt → Bool
is_bare x = some_bare (bare x)

abbrev pub layer_in : Place → Option Bare → Pat → Pat
layer_in p None q = q
layer_in p (Some b) q = roll-Pat (Pat-F.Layer p b.0 b.1 b.2 q)

-- the height is that of a node round the type and the pattern: both are at least 1, and the pattern at least 2
abbrev pub layer_of : Pt → Pt → Pt
layer_of x q = (layer_in (pat_place x.0) (bare x) q.0, max x.1 (suc q.1))

-- ---- the grammar

-- [op] longvid
abbrev pub NameD : Settings → Name → List Token → Type 0
NameD fix = Or (As bare_of (Shows (long_vid fix))) (As op_of (Both (Shows (the OP)) (Shows op_long_vid)))

-- )  or  Pat ), Pat , {Pat}/, )
abbrev pub InsideD : (Pt → List Token → Type 0) → Inside → List Token → Type 0
InsideD P = Or (As (λ u. Inside.Empty) (λ (u : Unit {0}). That (is CLOSE_PAREN)))
    (As Inside.Parts (Both P (Or (As (λ u. None) (λ (u : Unit {0}). That (is CLOSE_PAREN))) (As (λ x. Some x) (Skip (is COMMA) (Close (Seps (is COMMA) P) (is CLOSE_PAREN)))))))

-- Any _  |  PLit scon  |  PFields { [{PField}/,] }, where Rest is the last  |  PItems [ [{Pat}/,] ]  |  PUnit ( ), PParen ( Pat ), PTuple ( Pat , {Pat}/, )
abbrev pub other_form : (Fp → List Token → Type 0) → (Pt → List Token → Type 0) → Ap → List Token → Type 0
other_form F P =
    Or (As any_of (Shows (the WILDCARD)))
    (Or (As lit_of (Shows scon))
    (Or (As fields_of (Both (Shows (the OPEN_BRACE)) (Or (As (λ u. []) (λ (u : Unit {0}). That (is CLOSE_BRACE))) (Close (Ready (is COMMA) goes_on F) (is CLOSE_BRACE)))))
    (Or (As items_of (Both (Shows (the OPEN_BRACKET)) (Enclosed (is COMMA) P (is CLOSE_BRACKET))))
    (As paren_of (Both (Shows (the OPEN_PAREN)) (InsideD P))))))

-- PId [op] longvid  |  the same
abbrev pub at_form : Settings → (Fp → List Token → Type 0) → (Pt → List Token → Type 0) → Ap → List Token → Type 0
at_form fix F P = Or (As id_of (NameD fix)) (other_form F P)

-- : Ty [as Pat]  |  = Pat  |  as Pat
abbrev pub TailD : (Tx → List Token → Type 0) → (Pt → List Token → Type 0) → Tail → List Token → Type 0
TailD T P = Or (As Tail.Typed (Both (Skip (is COLON) T) (Maybe (Skip (is AS) P)))) (Or (As Tail.Named (Skip (is EQUALS) P)) (As Tail.Layered (Skip (is AS) P)))

-- a label that is no identifier without infix status
abbrev pub other_labels : Firsts
other_labels = firsts [] (DIGIT ∷ NUMBER ∷ []) (ALPHA ∷ SYMBOL ∷ STAR ∷ [])

abbrev pub other_lab : Settings → Token → Option Label
other_lab fix = shown (among fix other_labels) label

abbrev pub both_names : Token → Label × Ident
both_names t = (label t, ident t)

abbrev pub vid_or_lab : Settings → Token → Option (Label × Ident)
vid_or_lab fix = shown (among fix plain_names) both_names

-- Rest ...  |  Pun vid [: Ty] [as Pat], Named vid = Pat  |  Named lab = Pat
abbrev pub field_form : Settings → (Tx → List Token → Type 0) → (Pt → List Token → Type 0) → Fp → List Token → Type 0
field_form fix T P =
    Or (Or (As rest_of (Shows (the DOTS))) (As vid_field_of (Both (Shows (vid_or_lab fix)) (Maybe (TailD T P)))))
    (As named_of (Both (Shows (other_lab fix)) (Skip (is EQUALS) P)))

-- PCon [op] longvid AtPat, PAtom [op] longvid  |  PAtom AtPat, another one
abbrev pub OperandD : (Name → List Token → Type 0) → (Ap → List Token → Type 0) → (Ap → List Token → Type 0) → Operand → List Token → Type 0
OperandD N A O = Or (As Operand.Con (Both N (Maybe A))) (As Operand.Atom O)

-- PInfix Pat vid Pat
abbrev pub InfixD : (Pt → List Token → Type 0) → Bool → Settings → Pt × (Ident × Pt) → List Token → Type 0
InfixD R b fix x w =
    Left (tight fix) (right fix) b (top x.0) x.1.0 × AboveTop (tight fix) (right fix) b (floor_of (tight fix) (right fix) x.1.0) (top x.1.1)
    × Joined (R x.0) (Joined (Shows (infix_vid fix) x.1.0) (R x.1.1)) w

-- an operand  |  PInfix, where operators may clash or not
abbrev pub row_form : Bool → Settings → (Name → List Token → Type 0) → (Ap → List Token → Type 0) → (Ap → List Token → Type 0) → (Pt → List Token → Type 0) → Pt → List Token → Type 0
row_form b fix N A O R = Or (As operand_of (OperandD N A O)) (As infixed (InfixD R b fix))

-- the same  |  PTyped Pat : Ty
abbrev pub typed_form : (Pt → List Token → Type 0) → (Tx → List Token → Type 0) → (Pt → List Token → Type 0) → Pt → List Token → Type 0
typed_form R T Q = Or R (As (λ x. typed_of x.0 x.1) (Grown any_tree Q (Skip (is COLON) T)))

-- the same  |  Layer [op] vid [: Ty] as Pat: what is before `as` was an identifier, perhaps with a type
abbrev pub pat_form : (Pt → List Token → Type 0) → (Pt → List Token → Type 0) → Pt → List Token → Type 0
pat_form Q P = Or Q (As (λ x. layer_of x.0 x.1) (Grown is_bare Q (Skip (is AS) P)))

-- a tree of this height, which is at most the first, derives the tokens; the Boolean tells whether operators may clash
unfoldable mutual
  pub name_on : ℕ → Settings → Name → List Token → Type 0
  name_on zero fix t w = ⊥
  name_on (suc h) fix t w = NameD fix t w

  -- atomic patterns but identifiers
  pub other_on : ℕ → Bool → Settings → Ap → List Token → Type 0
  other_on zero b fix t w = ⊥
  other_on (suc h) b fix t w = other_form (field_on h b fix) (pat_on h b fix) t w

  pub at_on : ℕ → Bool → Settings → Ap → List Token → Type 0
  at_on zero b fix t w = ⊥
  at_on (suc h) b fix t w = at_form fix (field_on h b fix) (pat_on h b fix) t w

  pub field_on : ℕ → Bool → Settings → Fp → List Token → Type 0
  field_on zero b fix t w = ⊥
  field_on (suc h) b fix t w = field_form fix (ty_on h) (pat_on h b fix) t w

  -- rows of operators
  pub row_on : ℕ → Bool → Settings → Pt → List Token → Type 0
  row_on zero b fix t w = ⊥
  row_on (suc h) b fix t w = row_form b fix (name_on h fix) (at_on h b fix) (other_on h b fix) (row_on h b fix) t w

  -- rows with types
  pub typed_on : ℕ → Bool → Settings → Pt → List Token → Type 0
  typed_on zero b fix t w = ⊥
  typed_on (suc h) b fix t w = typed_form (row_form b fix (name_on h fix) (at_on h b fix) (other_on h b fix) (row_on h b fix)) (ty_on h) (typed_on h b fix) t w

  pub pat_on : ℕ → Bool → Settings → Pt → List Token → Type 0
  pat_on zero b fix t w = ⊥
  pat_on (suc h) b fix t w =
      pat_form (typed_form (row_form b fix (name_on h fix) (at_on h b fix) (other_on h b fix) (row_on h b fix)) (ty_on h) (typed_on h b fix)) (pat_on h b fix) t w

-- the same in a room
abbrev pub NameR : Settings → Room → Name → List Token → Type 0
NameR fix r = name_on r.height fix

abbrev pub OtherR : Settings → Room → Ap → List Token → Type 0
OtherR fix r = other_on r.height r.clashes fix

abbrev pub AtR : Settings → Room → Ap → List Token → Type 0
AtR fix r = at_on r.height r.clashes fix

abbrev pub FieldR : Settings → Room → Fp → List Token → Type 0
FieldR fix r = field_on r.height r.clashes fix

abbrev pub RowR : Settings → Room → Pt → List Token → Type 0
RowR fix r = row_on r.height r.clashes fix

abbrev pub TypedR : Settings → Room → Pt → List Token → Type 0
TypedR fix r = typed_on r.height r.clashes fix

abbrev pub PatR : Settings → Room → Pt → List Token → Type 0
PatR fix r = pat_on r.height r.clashes fix
