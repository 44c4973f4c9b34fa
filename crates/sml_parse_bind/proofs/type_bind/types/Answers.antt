use Rattle.std.proofs.Common.{◌≡◌, ℕ, suc, List, sym, ◌∙◌, arith}
use Rattle.std.proofs.lemmas.Result.{err_from_is_err_and}
use Rattle.tl_text.specs.declared.place.Place.{Place}
use Rattle.readers.specs.Reader.{Reader, mapped}
use Rattle.readers.specs.Forms.{ended, seps}
use Rattle.sml_lex.specs.declared.token.Token.{Token}
use Rattle.sml_grammar.specs.Words.{AND}
use Rattle.sml_grammar.specs.Tokens.{is, tokens_of}
use Rattle.sml_grammar.specs.ReadTypes.{ty_read}
use Rattle.sml_grammar_exp.specs.Binds.{Tb}
use Rattle.sml_grammar_exp.specs.Decs.{types_of}
use Rattle.sml_grammar_exp.specs.ReadBinds.{tybind_read}
use Rattle.sml_grammar_exp.specs.ReadDecs.{dec_goes}
use Rattle.sml_parse_bind.specs.Rows as rows
use Rattle.sml_parse_bind.proofs.Hands.{types_are}
use Rattle.sml_parse_bind.proofs.Seen.{mapped_same, closed_gives, closed_bars, closed_fails}
use Rattle.sml_parse_bind.proofs.type_bind.types.Goals as goal

abbrev all : ℕ → Reader Token (List Tb)
all h = seps (is AND) (tybind_read (ty_read h))

same : (p : Place) (h : ℕ) (s : List Token)
    → mapped (λ x. types_of (p, x)) (ended (tokens_of dec_goes) (all h)) s ≡ mapped (λ x. rows.types p (rows.tybinds x)) (ended (tokens_of dec_goes) (all h)) s
same p h s = mapped_same (λ x. types_of (p, x)) (λ x. rows.types p (rows.tybinds x)) (types_are p) (ended (tokens_of dec_goes) (all h)) s

pub returns-in_err-found : goal.returns-in_err-found
returns-in_err-found c =
    let p = err_from_is_err_and c.from_residual.result c.from_residual.ensures.1 in
    let e = same c.args.place c.args.room c.args.tokens.now in
    rw (p.1, p.2) (rw e (closed_fails rows.tybinds (rows.types c.args.place) (all c.args.room) (tokens_of dec_goes) c.in_err-found.field-0.0 c.args.tokens.now c.in_err-found.ensures))

pub returns-then-goes_on : goal.returns-then-goes_on
returns-then-goes_on c =
    same c.args.place c.args.room c.args.tokens.now
    ∙ closed_bars rows.tybinds (rows.types c.args.place) (all c.args.room) (tokens_of dec_goes) c.args.tokens.now ((c.in_ok-found.found, c.in_ok-found.height), c.in_ok-found.rest.now) c.in_ok-found.ensures (sym c.goes_on.ensures ∙ c.if-goes_on.true)

pub returns : goal.returns
returns c =
    let up : c.in_ok-height.height ≡ suc c.in_ok-found.height = omega (arith, c.in_ok-height.ensures) in
    rw up (same c.args.place c.args.room c.args.tokens.now
    ∙ closed_gives rows.tybinds (rows.types c.args.place) (all c.args.room) (tokens_of dec_goes) c.args.tokens.now ((c.in_ok-found.found, c.in_ok-found.height), c.in_ok-found.rest.now) c.in_ok-found.ensures (sym c.goes_on.ensures ∙ c.if-goes_on.false))
