use Rattle.std.proofs.Common.{◌++◌, [], ap, ◌∙◌}
use Rattle.std.specs.List.{cons_option}
use Rattle.std.proofs.lemmas.List.{length-set, length-map}
use Rattle.match_use.specs.Lines.{line_of, lines_of, matrices_of}
use Rattle.match_use.proofs.Keeping.{put_next}
use Rattle.match_use.proofs.kept.add_to_each.Goals as goal

pub loop-place-preserved : goal.loop-place-preserved
loop-place-preserved c =
    let fs = c.args.matrices.now.items in
    record {
      added = put_next (line_of c.args.row) c.args.heads.now c.loop-place.matrices.items (matrices_of fs) c.loop-place.place c.index-heads-place.result c.index_mut.result.now c.add.new.matrix
          c.loop-place.invariant.as_many (length-map fs (λ v. lines_of v.items) ∙ c.requires.as_many) c.loop-place-test.true c.loop-place.invariant.added c.index-heads-place.is c.index_mut.ensures.value
          (c.in_ok-add.ensures ∙ ap (λ o. lines_of c.index_mut.result.now.items ++ cons_option o []) c.left_for.ensures);
      as_many = length-set c.loop-place.matrices.items c.loop-place.place c.add.new.matrix ∙ c.loop-place.invariant.as_many;
    }
