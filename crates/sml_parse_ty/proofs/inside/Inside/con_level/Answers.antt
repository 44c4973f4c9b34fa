use Rattle.std.proofs.Common.{sym, ap, ◌∙◌}
use Rattle.readers.specs.Reader.{steps, token_by}
use Rattle.readers.specs.Forms.{height_of}
use Rattle.readers.proofs.StepLoop.{ended}
use Rattle.sml_grammar.specs.Tokens.{long_tycon, long_tycons, tokens_of}
use Rattle.sml_grammar.specs.Types.{Tx, applied}
use Rattle.sml_scan.proofs.Shorter.{token_shorter}
use Rattle.sml_scan.proofs.Grown.{next, grown_turn, grown_end, grown_deep}
use Rattle.sml_parse_ty.proofs.inside.Inside.con_level.Goals as goal

pub returns-then-room-found : goal.returns-then-room-found
returns-then-room-found g c =
    grown_deep (tokens_of long_tycons) height_of applied (token_by long_tycon) c.args.room (token_shorter long_tycon) c.names.found c.names.rest.now _ c.names.invariant
    (sym c.is_long_tycon.ensures ∙ c.names-test.true) c.if-room-found.true

pub names-preserved : goal.names-preserved
names-preserved g c =
    grown_turn (tokens_of long_tycons) height_of applied (token_by long_tycon) c.args.room (token_shorter long_tycon) c.names.found c.names.rest.now (c.in_ok-name.name, c.in_ok-name.after.now) _
    c.names.invariant (sym c.is_long_tycon.ensures ∙ c.names-test.true) c.if-room-found.false c.in_ok-name.ensures
    ∙ ap (λ (x : Tx). ended applied x (steps (tokens_of long_tycons) applied (next (tokens_of long_tycons) height_of applied (token_by long_tycon) c.args.room) x c.in_ok-name.after.now)) (sym c.in_ok-found-2.ensures)

pub returns : goal.returns
returns g c =
    grown_end (tokens_of long_tycons) height_of applied (token_by long_tycon) c.args.room (token_shorter long_tycon) c.names.found c.names.rest.now _ c.names.invariant
    (sym c.is_long_tycon.ensures ∙ c.names-test.false)
