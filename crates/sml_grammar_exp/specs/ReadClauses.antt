-- Reading the fronts of clauses. `( a ++ b )` may be one in parentheses or a pattern before an operator, which has less room for
-- the same tokens: so it is read as a pattern first, and where there is no room for that, once more.
use Rattle.std.specs.Prelude.{ℕ, suc, Bool, true, false, List, [], ◌∷◌, length, Ok, Err, nat_lt, nat_eq, if◌then◌else◌}
use Rattle.readers.specs.declared.code.Code.{Code}
use Rattle.readers.specs.declared.code.Code.TheVariants.{Grammar, Depth, FixityClash}
use Rattle.readers.specs.Reader.{first, head_is, Answer, Reader, both, mapped, token_by, close, only, row}
use Rattle.readers.specs.Forms.{else_if, ended, cons_of}
use Rattle.sml_lex.specs.declared.token.Token.{Token}
use Rattle.sml_fix.specs.Fixities.{Settings}
use Rattle.sml_grammar.specs.Words.{CLOSE_PAREN, OP, OPEN_BRACE, OPEN_BRACKET, OPEN_PAREN, WILDCARD}
use Rattle.sml_grammar.specs.Tokens.{Firsts, firsts, is, the, among, tokens_of, infix_vid, infix_names, ALPHA, SYMBOL, STAR, LONG_ALPHA, LONG_SYMBOL, LONG_STAR, ZERO, DIGIT, NUMBER, LITERAL}
use Rattle.sml_grammar.specs.Pats.{Ap}
use Rattle.sml_grammar.specs.ReadPats.{at_firsts as pat_firsts, begins_at as begins_pat, at_read}
use Rattle.sml_grammar_exp.specs.Binds.{Vid}
use Rattle.sml_grammar_exp.specs.ReadBinds.{vid_begins, begins_vid, vid_read}
use Rattle.sml_grammar_exp.specs.Clauses.{Parens, Head}

-- what a clause begins with, where there are operators and where there are none
abbrev pub head_firsts : Bool → Firsts
head_firsts true = pat_firsts
head_firsts false = vid_begins

abbrev pub begins_head : Bool → Settings → Token → Bool
begins_head ops fix = among fix (head_firsts ops)

-- what no front of a clause may be followed by
abbrev pub head_goes : Firsts
head_goes = firsts (OP ∷ WILDCARD ∷ OPEN_BRACE ∷ OPEN_BRACKET ∷ OPEN_PAREN ∷ [])
    (ALPHA ∷ SYMBOL ∷ STAR ∷ LONG_ALPHA ∷ LONG_SYMBOL ∷ LONG_STAR ∷ ZERO ∷ DIGIT ∷ NUMBER ∷ LITERAL ∷ []) (ALPHA ∷ SYMBOL ∷ STAR ∷ LONG_ALPHA ∷ LONG_SYMBOL ∷ LONG_STAR ∷ ZERO ∷ DIGIT ∷ NUMBER ∷ LITERAL ∷ [])

-- one or more
abbrev pub many_read : {T : Type 0} → (Token → Bool) → Reader Token T → Reader Token (List T)
many_read test p = mapped cons_of (both p (row test p))

-- ---- where no identifier is an operator

abbrev pub prefix_read : Settings → Reader Token Ap → ℕ → Reader Token Head
prefix_read fix at h = only (begins_head false fix) 1 (mapped Head.Prefix (ended (tokens_of head_goes) (both (vid_read fix) (many_read (begins_pat fix) at)))) h

-- ---- a phrase with an operator behind it, or one of others that are read from the same tokens with more room

module _ {A X H : Type 0} (op : Token → Bool) (mid : A → Reader Token H) (behind : X → Reader Token H) where
  abbrev pub operator_next : List Token → Bool
  operator_next s = head_is op (first s)

  -- the phrase was read up to here, and no operator follows
  abbrev pub plain_front : Answer Token X → List Token → Answer Token H
  plain_front (Ok x) r = behind x.0 x.1
  plain_front (Err e) r = Err (Grammar, r)

  -- why the phrase does not go on in more room where the other one was refused
  abbrev pub settled : Answer Token A → List Token → Code
  settled (Ok x) r = Depth
  settled (Err e) r = if nat_eq (length e.1) (length r) then e.0 else Depth

  -- there is no room for the phrase from here on
  abbrev pub low_front : Answer Token A → Answer Token X → List Token → Answer Token H
  low_front higher (Ok x) r = if operator_next x.1 then Err (Depth, x.1) else behind x.0 x.1
  low_front higher (Err e) r = if nat_lt (length e.1) (length r) then Err (settled higher e.1, e.1) else Err (Depth, r)

  abbrev pub refused_atom : Answer Token A → Answer Token X → Code → List Token → Answer Token H
  refused_atom higher front Grammar r = Err (Grammar, r)
  refused_atom higher front Depth r = low_front higher front r
  refused_atom higher front FixityClash r = Err (FixityClash, r)

  abbrev pub head_by : Answer Token A → Answer Token A → Answer Token X → Answer Token H
  head_by (Ok x) higher front = if operator_next x.1 then mid x.0 x.1 else plain_front front x.1
  head_by (Err e) higher front = refused_atom higher front e.0 e.1

  abbrev pub either_read : Reader Token A → Reader Token A → Reader Token X → Reader Token H
  either_read at higher front s = head_by (at s) (higher s) (front s)

-- ---- where some are

-- what arguments may follow: a name, or two patterns in parentheses
pub data Front : Type 0 where
  Named : Vid → Front
  Parted : Parens → Front

abbrev pub front_read : Settings → Reader Token Ap → Reader Token Front
front_read fix at = else_if (begins_vid fix) (mapped Front.Named (vid_read fix)) (mapped Front.Parted (both (token_by (the OPEN_PAREN)) (close (both at (both (token_by (infix_vid fix)) at)) (is CLOSE_PAREN))))

abbrev pub head_of : Front → List Ap → Head
head_of (Front.Named v) ps = Head.Prefix (v, ps)
head_of (Front.Parted x) ps = Head.MidMore (x, ps)

abbrev pub args_read : Settings → Reader Token Ap → Front → Reader Token (List Ap)
args_read fix at (Front.Named v) = ended (tokens_of head_goes) (many_read (begins_pat fix) at)
args_read fix at (Front.Parted x) = ended (tokens_of head_goes) (row (begins_pat fix) at)

-- an operator and a pattern behind this one
abbrev pub mid_read : Settings → Reader Token Ap → Ap → Reader Token Head
mid_read fix at a = mapped (λ y. Head.Mid (a, y)) (ended (tokens_of head_goes) (both (token_by (infix_vid fix)) at))

abbrev pub behind_front : Settings → Reader Token Ap → Front → Reader Token Head
behind_front fix at x = mapped (head_of x) (args_read fix at x)

-- a pattern, which is read in more room where there is none for it
abbrev pub any_head : Settings → Reader Token Ap → Reader Token Ap → Reader Token Head
any_head fix at higher = either_read (among fix infix_names) (mid_read fix at) (behind_front fix at) at higher (front_read fix at)

-- the front of a clause, where patterns inside may have this height; the first says whether some identifier is an operator
abbrev pub head_read : Bool → ℕ → Bool → Settings → Reader Token Head
head_read true h b fix = only (begins_head true fix) 1 (any_head fix (at_read h b fix) (at_read (suc (suc (suc h))) b fix)) h
head_read false h b fix = prefix_read fix (at_read h b fix) h
