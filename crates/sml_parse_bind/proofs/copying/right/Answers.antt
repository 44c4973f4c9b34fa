use Rattle.std.proofs.Common.{None, sym, ◌∙◌}
use Rattle.std.proofs.lemmas.Result.{err_from_is_err_and}
use Rattle.readers.specs.Forms.{ended}
use Rattle.sml_fix.specs.Fixities.{settings}
use Rattle.sml_grammar.specs.Tokens.{tokens_of}
use Rattle.sml_grammar_exp.specs.ReadDecs.{dec_goes}
use Rattle.sml_parse_bind.specs.Levels as levels
use Rattle.sml_parse_bind.specs.Rows as rows
use Rattle.sml_parse_bind.proofs.Hands.{right_copied, right_cons, datas_are}
use Rattle.sml_parse_bind.proofs.Seen.{mapped_same, seen_fails}
use Rattle.sml_parse_bind.proofs.copying.right.Goals as goal

pub returns-then-is_next : goal.returns-then-is_next
returns-then-is_next c = rw (right_copied (settings c.args.fix.now) c.args.room c.args.place c.args.name c.args.tokens.now (sym c.is_next.ensures ∙ c.if-is_next.true)) c.copied.ensures

pub returns-in_err-parts : goal.returns-in_err-parts
returns-in_err-parts c =
    let p = err_from_is_err_and c.from_residual.result c.from_residual.ensures.1 in
    let all = ended (tokens_of dec_goes) (levels.binds (settings c.args.fix.now) c.args.room) in
    let cons = right_cons (settings c.args.fix.now) c.args.room c.args.place c.args.name c.args.tokens.now (sym c.is_next.ensures ∙ c.if-is_next.false) (sym c.begins_vid.ensures ∙ c.if-not-begins_vid.false) c.if-room-lt1.false in
    let e = mapped_same _ _ (datas_are c.args.place c.args.name) all c.args.tokens.now in
    rw (p.1, p.2) (rw (cons ∙ e) (seen_fails rows.parts (rows.datatypes c.args.place None c.args.name) all c.in_err-parts.field-0.0 c.args.tokens.now c.in_err-parts.ensures))
