use Rattle.std.proofs.Common.{◌++◌, [], ◌∷◌, List, sym, ap, ◌∙◌, subst, arith}
use Rattle.std.proofs.lemmas.List.{get_or_read}
use Rattle.sml_static.specs.declared.ty.Label.{Label}
use Rattle.sml_static.specs.declared.ty.Label.TheVariants as lab
use Rattle.sml_static.specs.declared.ty.Ty.{Ty}
use Rattle.sml_static.specs.declared.ty.Ty.TheVariants as ty
use Rattle.ty_unify.specs.declared.cell.Tag.TheVariants as tag
use Rattle.ty_unify.specs.Trees.{Fork, Record, Named}
use Rattle.ty_unify.specs.Cells.{cell_at}
use Rattle.ty_unify.specs.Reading.{Reads, label_at, arrows_to}
use Rattle.ty_unify.proofs.Reading.{argument_is, field_is, arrow_is, parts_in, label_in, linked, linked_args, linked_fields, read_args, read_fields, args_turn, fields_turn, arrow_turn, args_done, fields_done}
use Rattle.ty_unify.proofs.read.+read.Goals as goal

pub read_named-loop-next-init : goal.read_named-loop-next-init
read_named-loop-next-init t c =
    let labels = c.args.labels.now in
    let cells = c.args.cells.now in
    let r = c.root-at.ensures in
    let d = c.in_ok-push.ensures.ok ∙ ap (λ (l : List Ty). l ++ c.in_ok-ty.ty ∷ []) c.new-args.ensures in
    let l = c.in_ok-ty.ensures.less in
    record {
      reads = λ ts rs. subst (λ (k : List Ty). Reads labels cells (λ θ. Fork (Named c.args.name) (θ c.args.first) (θ c.args.rest)) (ty.Con c.args.name (k ++ ts))) (sym d)
          (read_args labels cells c.args.name c.args.first c.args.rest c.in_ok-ty.ty ts c.in_ok-ty.ensures.reads (linked_args labels cells c.args.rest c.root-at.result ts r.same rs));
      within = r.within;
      sort = r.sort ∙ c.requires.sort;
      root = r.root;
      less = omega arith;
    }

pub read_named-loop-next-preserved : goal.read_named-loop-next-preserved
read_named-loop-next-preserved t c =
    let labels = c.args.labels.now in
    let cells = c.args.cells.now in
    let i = c.loop-next.invariant in
    let r = c.root-at-in-Some.ensures in
    let e = argument_is (cell_at cells c.loop-next.at).shape (c.in-Some.next, c.in-Some.others) c.in-Some.ensures in
    let p = parts_in labels cells c.loop-next.at tag.Argument c.in-Some.next c.in-Some.others c.requires.sound e in
    let l = c.in_ok-ty-2.ensures.less in
    let k = i.less in
    record {
      reads = args_turn labels cells (λ θ. Fork (Named c.args.name) (θ c.args.first) (θ c.args.rest)) c.loop-next.at c.root-at-in-Some.result c.in-Some.next c.in-Some.others c.args.name c.loop-next.args c.push-in-Some.new.self c.in_ok-ty-2.ty e
          c.in_ok-push-2.ensures.ok c.in_ok-ty-2.ensures.reads r.same i.reads;
      within = r.within;
      sort = r.sort ∙ p.2;
      root = r.root;
      less = omega arith;
    }

pub read_named-returns-clause-reads : goal.read_named-returns-clause-reads
read_named-returns-clause-reads t c =
    let i = c.loop-next.invariant in
    args_done c.args.labels.now c.args.cells.now (λ θ. Fork (Named c.args.name) (θ c.args.first) (θ c.args.rest)) c.loop-next.at c.args.name c.loop-next.args c.requires.sound i.root i.sort c.in_default.ensures i.reads

pub read_record-loop-index-init : goal.read_record-loop-index-init
read_record-loop-index-init t c =
    let labels = c.args.labels.now in
    let cells = c.args.cells.now in
    let r = c.root-at.ensures in
    let w = c.in_ok-word.ensures ∙ get_or_read labels c.args.label c.index-labels-label.result c.requires.label c.index-labels-label.is (lab.Num 0) in
    let d = c.in_ok-push.ensures.ok ∙ ap (λ (l : List (Label × Ty)). l ++ (c.in_ok-word.word, c.in_ok-ty.ty) ∷ []) c.new-fields.ensures in
    let l = c.in_ok-ty.ensures.less in
    record {
      reads = λ fs rs. subst (λ (k : List (Label × Ty)). Reads labels cells (λ θ. Fork (Record (label_at labels c.args.label)) (θ c.args.first) (θ c.args.rest)) (ty.Fields (k ++ fs))) (sym d)
          (read_fields labels cells c.args.label c.args.first c.args.rest c.in_ok-word.word c.in_ok-ty.ty fs w c.in_ok-ty.ensures.reads (linked_fields labels cells c.args.rest c.root-at.result fs r.same rs));
      within = r.within;
      sort = r.sort ∙ c.requires.sort;
      root = r.root;
      less = omega arith;
    }

pub read_record-loop-index-preserved : goal.read_record-loop-index-preserved
read_record-loop-index-preserved t c =
    let labels = c.args.labels.now in
    let cells = c.args.cells.now in
    let i = c.loop-index.invariant in
    let r = c.root-at-in-Some.ensures in
    let e = field_is (cell_at cells c.loop-index.at).shape (c.in-Some.index, c.in-Some.next, c.in-Some.others) c.in-Some.ensures in
    let p = parts_in labels cells c.loop-index.at (tag.Field c.in-Some.index) c.in-Some.next c.in-Some.others c.requires.sound e in
    let q = label_in labels cells c.loop-index.at (tag.Field c.in-Some.index) c.in-Some.next c.in-Some.others c.requires.sound e in
    let w = c.in_ok-word-2.ensures ∙ get_or_read labels c.in-Some.index c.index-labels-index.result q c.index-labels-index.is (lab.Num 0) in
    let l = c.in_ok-ty-2.ensures.less in
    let k = i.less in
    record {
      reads = fields_turn labels cells (λ θ. Fork (Record (label_at labels c.args.label)) (θ c.args.first) (θ c.args.rest)) c.loop-index.at c.root-at-in-Some.result c.in-Some.index c.in-Some.next c.in-Some.others c.in_ok-word-2.word c.loop-index.fields c.push-in-Some.new.self c.in_ok-ty-2.ty e
          c.in_ok-push-2.ensures.ok w c.in_ok-ty-2.ensures.reads r.same i.reads;
      within = r.within;
      sort = r.sort ∙ p.2;
      root = r.root;
      less = omega arith;
    }

pub read_record-returns-clause-reads : goal.read_record-returns-clause-reads
read_record-returns-clause-reads t c =
    let i = c.loop-index.invariant in
    fields_done c.args.labels.now c.args.cells.now (λ θ. Fork (Record (label_at c.args.labels.now c.args.label)) (θ c.args.first) (θ c.args.rest)) c.loop-index.at c.loop-index.fields c.requires.sound i.root i.sort c.in_default.ensures i.reads

pub read_ty-loop-from-init : goal.read_ty-loop-from-init
read_ty-loop-from-init t c =
    let labels = c.args.labels.now in
    let cells = c.args.cells.now in
    let r = c.root-at.ensures in
    let l = c.in_ok-spend.ensures in
    record {
      reads = λ y ry. subst (λ (k : List Ty). Reads labels cells (λ θ. θ c.args.node) (arrows_to k y)) (sym c.new-froms.ensures.items) (linked labels cells c.args.node c.root-at.result y r.same ry);
      node = (r.within, r.sort ∙ c.requires.node.1);
      root = r.root;
      less = omega arith;
    }

pub read_ty-loop-from-preserved : goal.read_ty-loop-from-preserved
read_ty-loop-from-preserved t c =
    let labels = c.args.labels.now in
    let cells = c.args.cells.now in
    let i = c.loop-from.invariant in
    let r = c.root-at-in-Some.ensures in
    let e = arrow_is (cell_at cells c.loop-from.at).shape (c.in-Some.from, c.in-Some.to) c.in-Some.ensures in
    let p = parts_in labels cells c.loop-from.at tag.Arrow c.in-Some.from c.in-Some.to c.requires.sound e in
    let l = c.in_ok-ty.ensures.less in
    let k = i.less in
    record {
      reads = arrow_turn labels cells (λ θ. θ c.args.node) c.loop-from.at c.root-at-in-Some.result c.in-Some.from c.in-Some.to c.loop-from.froms.items c.push.new.self.items c.in_ok-ty.ty e
          c.in_ok-push.ensures.items c.in_ok-ty.ensures.reads r.same i.reads;
      node = (r.within, r.sort ∙ p.2);
      root = r.root;
      less = omega arith;
    }

pub read_ty-returns-clause-reads : goal.read_ty-returns-clause-reads
read_ty-returns-clause-reads t c =
    subst (λ (y : Ty). Reads c.args.labels.now c.args.cells.now (λ θ. θ c.args.node) y) (sym c.in_ok-ty-2.ensures) (c.loop-from.invariant.reads c.in_ok-last.last c.in_ok-last.ensures.reads)
