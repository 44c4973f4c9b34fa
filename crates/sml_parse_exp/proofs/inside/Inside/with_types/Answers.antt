use Rattle.std.proofs.Common.{sym, ◌∙◌, arith}
use Rattle.readers.specs.Forms.{ended, seps}
use Rattle.sml_fix.specs.Fixities.{settings}
use Rattle.sml_grammar.specs.Words.{AND}
use Rattle.sml_grammar.specs.Tokens.{is, tokens_of}
use Rattle.sml_grammar.specs.ReadTypes.{ty_read}
use Rattle.sml_grammar_exp.specs.ReadBinds.{exbind_read, tybind_read}
use Rattle.sml_grammar_exp.specs.ReadDecs.{dec_goes}
use Rattle.sml_parse_bind.specs.Levels as binds
use Rattle.sml_parse_exp.proofs.Changes.{data_still, types_still, exns_still}
use Rattle.sml_parse_exp.proofs.Hands.{datatype_in, types_in, exceptions_in}
use Rattle.sml_parse_exp.proofs.inside.Inside.with_types.Goals as goal

pub returns-then-is_next-clause-gives : goal.returns-then-is_next-clause-gives
returns-then-is_next-clause-gives g c =
    rw (datatype_in c.args.scope.now c.args.room c.args.tokens.now c.in_ok-place.rest.now c.in_ok-place.place (sym c.is_next.ensures ∙ c.if-is_next.true) c.in_ok-place.ensures, sym c.fixities.ensures) c.datatype.ensures

pub returns-then-is_next-clause-moves : goal.returns-then-is_next-clause-moves
returns-then-is_next-clause-moves g c = data_still c.in_ok-place.place c.in_ok-place.rest.now c.datatype.result c.args.scope.now (binds.datas (settings c.fixities.result.now) c.args.room) c.datatype.ensures

pub returns-then-is_next-2-clause-gives : goal.returns-then-is_next-2-clause-gives
returns-then-is_next-2-clause-gives g c =
    rw (types_in c.args.scope.now c.args.room c.args.tokens.now c.in_ok-place-2.rest.now c.in_ok-place-2.place (sym c.is_next.ensures ∙ c.if-is_next.false) (sym c.is_next-2.ensures ∙ c.if-is_next-2.true) (let le = c.if-room-lt1.false in omega arith) c.in_ok-place-2.ensures) c.types.ensures

pub returns-then-is_next-2-clause-moves : goal.returns-then-is_next-2-clause-moves
returns-then-is_next-2-clause-moves g c = types_still c.in_ok-place-2.place c.in_ok-place-2.rest.now c.types.result c.args.scope.now (ended (tokens_of dec_goes) (seps (is AND) (tybind_read (ty_read c.args.room)))) c.types.ensures

pub returns-then-is_next-3-clause-gives : goal.returns-then-is_next-3-clause-gives
returns-then-is_next-3-clause-gives g c =
    rw (exceptions_in c.args.scope.now c.args.room c.args.tokens.now c.in_ok-place-3.rest.now c.in_ok-place-3.place (sym c.is_next.ensures ∙ c.if-is_next.false) (sym c.is_next-2.ensures ∙ c.if-is_next-2.false) (sym c.is_next-3.ensures ∙ c.if-is_next-3.true) (let le = c.if-room-lt1-2.false in omega arith) c.in_ok-place-3.ensures, sym c.fixities-then-is_next-3.ensures) c.exceptions.ensures

pub returns-then-is_next-3-clause-moves : goal.returns-then-is_next-3-clause-moves
returns-then-is_next-3-clause-moves g c = exns_still c.in_ok-place-3.place c.in_ok-place-3.rest.now c.exceptions.result c.args.scope.now (ended (tokens_of dec_goes) (seps (is AND) (exbind_read c.args.room (settings c.fixities-then-is_next-3.result.now)))) c.exceptions.ensures
