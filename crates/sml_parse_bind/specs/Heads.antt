-- The fronts of clauses as the code has them: trees without heights, and the height of the highest.
use Rattle.std.specs.Prelude.{ℕ, suc, false, List, max}
use Rattle.readers.specs.declared.code.Code.{Code}
use Rattle.readers.specs.Reader.{Reader, Answer, both, mapped, token_by, close, row}
use Rattle.readers.specs.Forms.{ended, highest, height_of}
use Rattle.sml_lex.specs.declared.token.Token.{Token}
use Rattle.sml_fix.specs.Fixities.{Settings}
use Rattle.sml_ast.specs.declared.pat.AtPat.{AtPat}
use Rattle.sml_grammar.specs.Words.{CLOSE_PAREN, OPEN_PAREN}
use Rattle.sml_grammar.specs.Tokens.{is, the, tokens_of, among, infix_vid, infix_names}
use Rattle.sml_grammar.specs.Types.{Ident, trees}
use Rattle.sml_grammar.specs.Pats.{Ap}
use Rattle.sml_grammar.specs.ReadPats as pats
use Rattle.sml_grammar_exp.specs.Binds.{Vid}
use Rattle.sml_grammar_exp.specs.ReadBinds.{vid_read}
use Rattle.sml_grammar_exp.specs.Clauses as grammar
use Rattle.sml_grammar_exp.specs.Clauses.{Parens}
use Rattle.sml_grammar_exp.specs.ReadClauses as read
use Rattle.sml_parse_bind.specs.declared.head.Head.{Head}
use Rattle.sml_parse_bind.specs.declared.head.Head.TheVariants as made
use Rattle.sml_parse_bind.specs.declared.head.Front.{Front}
use Rattle.sml_parse_bind.specs.declared.head.Front.TheVariants as fronts

-- without heights
abbrev pub bare_tree : grammar.Head → Head
bare_tree (grammar.Head.Prefix x) = made.Prefix x.0.0 x.0.1 x.0.2 (trees x.1)
bare_tree (grammar.Head.Mid x) = made.Mid x.0.0 x.1.0 x.1.1.0
bare_tree (grammar.Head.MidMore x) = made.MidMore x.0.0 x.0.1.0.0 x.0.1.1.0 x.0.1.1.1.0 (trees x.1)

abbrev pub bare : grammar.Head → Head × ℕ
bare x = (bare_tree x, grammar.head_height x)

abbrev pub named : Vid → List Ap → Head × ℕ
named v ps = bare (grammar.Head.Prefix (v, ps))

abbrev pub pair : grammar.Pair → (AtPat × Ident × AtPat) × ℕ
pair x = ((x.0.0, x.1.0, x.1.1.0), grammar.pair_height x)

abbrev pub parted : Parens → Front × ℕ
parted x = (fronts.Parted x.0 x.1.0.0 x.1.1.0 x.1.1.1.0, grammar.pair_height x.1)

abbrev pub front : read.Front → Front × ℕ
front (read.Front.Named v) = (fronts.Named v.0 v.1 v.2, 0)
front (read.Front.Parted x) = parted x

-- ---- readers, where patterns inside may have this height

module _ (fix : Settings) (h : ℕ) where
  abbrev pub at : Reader Token Ap
  at = pats.at_read h false fix

  abbrev pub closed_pats : Reader Token (List Ap)
  closed_pats = ended (tokens_of read.head_goes) (read.many_read (pats.begins_at fix) at)

  abbrev pub prefix : Reader Token grammar.Head
  prefix = mapped grammar.Head.Prefix (ended (tokens_of read.head_goes) (both (vid_read fix) (read.many_read (pats.begins_at fix) at)))

  abbrev pub pair_read : Reader Token grammar.Pair
  pair_read = both at (both (token_by (infix_vid fix)) at)

  abbrev pub parted_read : Reader Token Parens
  parted_read = both (token_by (the OPEN_PAREN)) (close pair_read (is CLOSE_PAREN))

  -- the arguments of a front without heights
  abbrev pub arguments : Front × ℕ → Reader Token (Head × ℕ)
  arguments (fronts.Named p o v, n) = mapped (named (p, o, v)) closed_pats
  arguments (fronts.Parted p a v b, n) = mapped (λ ps. (made.MidMore p a v b (trees ps), max n (highest height_of ps))) (ended (tokens_of read.head_goes) (row (pats.begins_at fix) at))

  abbrev pub mid : Ap → Reader Token grammar.Head
  mid = read.mid_read fix at

  abbrev pub behind : read.Front → Reader Token grammar.Head
  behind = read.behind_front fix at

  abbrev pub plain : List Token → List Token → Answer Token (Head × ℕ)
  plain s r = mapped bare (λ z. read.plain_front (among fix infix_names) mid behind (read.front_read fix at s) z) r

  abbrev pub settled : List Token → List Token → Code
  settled s r = read.settled (among fix infix_names) mid behind (pats.at_read (suc (suc (suc h))) false fix s) r

  abbrev pub low : List Token → List Token → Answer Token (Head × ℕ)
  low s r = mapped bare (λ z. read.low_front (among fix infix_names) mid behind (pats.at_read (suc (suc (suc h))) false fix s) (read.front_read fix at s) z) r

  abbrev pub any : Reader Token grammar.Head
  any = read.any_head fix at (pats.at_read (suc (suc (suc h))) false fix)
