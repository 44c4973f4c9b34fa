-- The readers of the grammar part by part, by the height that stands inside: what the methods of the code give.
use Rattle.std.specs.Prelude.{ℕ, Bool, false, List, Option, Some, None}
use Rattle.readers.specs.declared.floor.Floor.{Floor}
use Rattle.readers.specs.Reader.{Reader, both, mapped, token_by, one, skip, close, only, else_by, guard}
use Rattle.readers.specs.Room.{at_height}
use Rattle.readers.specs.Infix.{ground, takes, suffix_read}
use Rattle.readers.specs.Forms.{ended, maybe, optional, seps, enclosed, else_if, at_least, growth}
use Rattle.sml_parse_pat.specs.declared.inside.Level.{Level}
use Rattle.sml_parse_pat.specs.declared.inside.Level.TheVariants as level
use Rattle.sml_lex.specs.declared.token.Token.{Token}
use Rattle.sml_fix.specs.Fixities.{Settings}
use Rattle.sml_grammar.specs.Words.{AS, OPEN_PAREN, CLOSE_PAREN, OPEN_BRACKET, CLOSE_BRACKET, COMMA, COLON, DOTS, EQUALS}
use Rattle.sml_grammar.specs.Tokens.{is, the, tokens_of, infix_vid}
use Rattle.sml_grammar.specs.Types.{Ident, Tx}
use Rattle.sml_grammar.specs.Pats.{tight, right, Ap, Fp, Pt, Tail, Operand, items_of, paren_of, rest_of, named_of, operand_of, infix_of, top, other_lab}
use Rattle.sml_grammar.specs.ReadTypes.{ty_read}
use Rattle.sml_grammar.specs.ReadPats as read

abbrev pub pat : Settings → ℕ → Reader Token Pt
pat fix h = read.pat_read h false fix

abbrev pub field : Settings → ℕ → Reader Token Fp
field fix h = read.field_read h false fix

-- ---- atoms

-- behind the first pattern in parentheses
abbrev pub behind_first : Settings → ℕ → Reader Token (Option (List Pt))
behind_first fix h = else_if (is CLOSE_PAREN) (mapped (λ u. None) (one (is CLOSE_PAREN))) (mapped (λ x. Some x) (skip (is COMMA) (close (seps (is COMMA) (pat fix h)) (is CLOSE_PAREN))))

abbrev pub parts : Settings → ℕ → Reader Token (Pt × Option (List Pt))
parts fix h = both (pat fix h) (behind_first fix h)

abbrev pub parenthesised : Settings → ℕ → Reader Token Ap
parenthesised fix h = only (is OPEN_PAREN) 0 (mapped paren_of (both (token_by (the OPEN_PAREN)) (read.inside_read fix (pat fix h) h))) h

abbrev pub bracketed : Settings → ℕ → Reader Token Ap
bracketed fix h = else_by (is OPEN_BRACKET) 0 (mapped items_of (both (token_by (the OPEN_BRACKET)) (enclosed (read.begins_at fix) 2 (is COMMA) (pat fix h) (is CLOSE_BRACKET) h))) (parenthesised fix h) h

abbrev pub other_level : Settings → ℕ → Reader Token Ap
other_level fix h = read.other_level fix (field fix h) (pat fix h) h

abbrev pub at_level : Settings → ℕ → Reader Token Ap
at_level fix h = read.at_level fix (field fix h) (pat fix h) h

-- ---- fields

abbrev pub typed_tail : Settings → ℕ → Reader Token (Tx × Option Pt)
typed_tail fix h = both (skip (is COLON) (ty_read h)) (maybe (is AS) 2 (skip (is AS) (pat fix h)) h)

abbrev pub tail : Settings → ℕ → Reader Token Tail
tail fix h = read.tail_read (ty_read h) (pat fix h) h

abbrev pub open_tail : Settings → ℕ → Reader Token (Option Tail)
open_tail fix h = maybe read.begins_tail 1 (tail fix h) h

abbrev pub closed_tail : Settings → ℕ → Reader Token (Option Tail)
closed_tail fix h = ended (tokens_of read.field_goes) (open_tail fix h)

abbrev pub dots : Reader Token Fp
dots = mapped rest_of (ended (tokens_of read.field_goes) (token_by (the DOTS)))

abbrev pub vid_field : Settings → ℕ → Reader Token Fp
vid_field fix h = read.vids_read fix (ty_read h) (pat fix h) h

abbrev pub value : Settings → ℕ → Reader Token Pt
value fix h = ended (tokens_of read.field_goes) (skip (is EQUALS) (pat fix h))

abbrev pub named_field : Settings → ℕ → Reader Token Fp
named_field fix h = mapped named_of (both (token_by (other_lab fix)) (value fix h))

abbrev pub field_level : Settings → ℕ → Reader Token Fp
field_level fix h = read.field_level fix (ty_read h) (pat fix h) h

-- ---- rows, whose operands are seen as patterns

abbrev pub arg : Settings → ℕ → Reader Token (Option Ap)
arg fix h = optional (read.begins_at fix) (read.at_read h false fix)

abbrev pub construction : Settings → ℕ → Reader Token Pt
construction fix h = mapped operand_of (mapped Operand.Con (both (read.name_level fix) (arg fix h)))

abbrev pub bare_operand : Settings → ℕ → Reader Token Operand
bare_operand fix h = else_by (read.begins_name fix) 1 (mapped Operand.Con (both (read.name_read h fix) (arg fix h))) (only read.begins_other 1 (mapped Operand.Atom (read.other_read h false fix)) h) h

abbrev pub open_operand : Settings → ℕ → Reader Token Pt
open_operand fix h = mapped operand_of (bare_operand fix h)

abbrev pub operand_read : Settings → ℕ → Reader Token Operand
operand_read fix h = read.operand_read fix (read.name_read h fix) (read.at_read h false fix) (read.other_read h false fix) h

abbrev pub operand : Settings → ℕ → Reader Token Pt
operand fix h = mapped operand_of (operand_read fix h)

abbrev pub taken : Settings → Floor → Token → Bool
taken fix n = takes (tight fix) (right fix) (infix_vid fix) top (at_least 2) operand_of infix_of n

-- an operator behind this pattern, and the row on its right
abbrev pub suffix : Settings → ℕ → Floor → Pt → Reader Token (Ident × Pt)
suffix fix h n = suffix_read (tight fix) (right fix) (infix_vid fix) top (at_least 2) operand_of infix_of (λ m. read.row_read h false m fix) (at_height h false) n

abbrev pub row_level : Settings → ℕ → Floor → Reader Token Pt
row_level fix h n = read.row_level fix false (operand_read fix h) (λ m. read.row_read h false m fix) h n

-- ---- types and layers

abbrev pub base_level : Settings → ℕ → Reader Token Pt
base_level fix h = ended (tokens_of read.inner_goes) (row_level fix h ground)

abbrev pub annotation : ℕ → Reader Token Tx
annotation h = ended (tokens_of read.inner_goes) (skip (is COLON) (ty_read h))

abbrev pub typed_level : Settings → ℕ → Reader Token Pt
typed_level fix h = read.typed_level (row_level fix h ground) (ty_read h) h

-- `as p`, where it is next, behind what may stand before it or not
abbrev pub upper : Settings → ℕ → Bool → Reader Token (Option Pt)
upper fix h bare = maybe (is AS) 0 (guard (growth (is AS) bare 2 h) (skip (is AS) (pat fix h))) h

abbrev pub pat_level : Settings → ℕ → Reader Token Pt
pat_level fix h = read.pat_level (typed_level fix h) (pat fix h) h

-- what a function of the code reads
abbrev pub phrase : Settings → ℕ → Level → Reader Token Pt
phrase fix h level.Whole = pat fix h
phrase fix h (level.Row n) = read.row_read h false n fix
