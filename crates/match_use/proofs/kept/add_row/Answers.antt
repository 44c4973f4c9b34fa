use Rattle.std.proofs.Common.{◌≡◌, ◌++◌, [], map, set, sym}
use Rattle.std.specs.List.{cons_option}
use Rattle.std.specs.Option.{option_map}
use Rattle.match_use.specs.Keys.{shared_head}
use Rattle.match_use.specs.Lines.{line_of, lines_of, matrices_of}
use Rattle.match_use.specs.Steps.{with_lines}
use Rattle.match_use.proofs.Keeping.{unlike_heads, put_own}
use Rattle.match_use.proofs.Visiting.{if_ok-map}
use Rattle.match_use.proofs.kept.add_row.Goals as goal

pub returns-in-None-get_index_of : goal.returns-in-None-get_index_of
returns-in-None-get_index_of c =
    sym (unlike_heads (line_of c.args.row) c.in-Some.head c.args.heads.now.keys (matrices_of c.args.matrices.now.items) c.in-Some.ensures.head (sym c.in-None-get_index_of.ensures.found))

pub returns-in-Some-get_index_of : goal.returns-in-Some-get_index_of
returns-in-Some-get_index_of c =
    let ms = c.args.matrices.now.items in
    let i = c.in-Some-get_index_of.place in
    if_ok-map (λ _. lines_of c.add.new.matrix.items ≡ lines_of c.index_mut.result.now.items ++ cons_option (option_map line_of c.left_for_own.result) [])
    (λ _. matrices_of (set ms i c.add.new.matrix) ≡ with_lines (line_of c.args.row) (map shared_head c.args.heads.now.keys) (matrices_of ms)) c.add.result
    (λ _ p. put_own (line_of c.args.row) c.in-Some.head (option_map line_of c.left_for_own.result) c.in-Some.ensures.head c.left_for_own.ensures c.args.heads.now.keys ms i c.index_mut.result.now c.add.new.matrix
    c.as_slice-all.ensures.unique c.requires (sym c.in-Some-get_index_of.ensures.index) c.index_mut.ensures.value p) c.add.ensures
