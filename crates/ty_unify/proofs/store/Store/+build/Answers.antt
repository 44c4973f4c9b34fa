use Rattle.std.proofs.Common.{rules, ◌≡◌, ◌<◌, ◌≤◌, ◌-◌, List, length, suc, map, IsTrue, sym, ap, ◌∙◌, subst, arith}
use Rattle.std.specs.List.{list_any, list_all}
use Rattle.tl_text.specs.Pairs.{map_second, seconds}
use Rattle.sml_static.specs.declared.ty.Label.{Label}
use Rattle.sml_static.specs.declared.ty.Ty.{Ty}
use Rattle.sml_static.specs.declared.ty.Ty.TheFolds
use Rattle.ty_unify.specs.declared.cell.Sort.TheVariants as sort
use Rattle.ty_unify.specs.Trees.{Fork, Arrow}
use Rattle.ty_unify.specs.Building.{under, has_free, is_closed, fields_tree}
use Rattle.ty_unify.proofs.Building.{node_kept, any_field, all_field, any_arg, all_arg, row_field, row_record, row_arg, row_named, made_free, made_fork, made_as, or_first, or_second, and_both}
use Rattle.ty_unify.proofs.Levels.{free_fields, free_args, free_arrow, closed_fields, closed_args, closed_arrow, under_arrow, under_fields, under_free, free_free}
use Rattle.ty_unify.proofs.store.Store.+build.Goals as goal

pub build_record-build_ty-requires : goal.build_record-build_ty-requires
build_record-build_ty-requires t c =
    let i = c.loop-left.invariant in
    let h = i.high in
    let lt : c.loop-left.left - 1 < length c.args.fields.now = omega arith in
    let is = c.index-fields-left.is in (
      search (rules, TheFolds.the_lemmas),
      (
        (λ n q. node_kept _ _ _ _ n i.made.grown (c.requires.frees n (any_field (has_free n) c.args.fields.now (c.loop-left.left - 1) _ lt is q))),
        all_field is_closed c.args.fields.now (c.loop-left.left - 1) _ lt is c.requires.closed,
      ),
    )

pub build_record-build_ty-requires-2 : goal.build_record-build_ty-requires-2
build_record-build_ty-requires-2 t c =
    let i = c.loop-left.invariant in
    let h = i.high in
    let lo = i.low in
    let lt : 0 < length c.args.fields.now = omega arith in
    let is = c.index-fields-0.is in (
      search (rules, TheFolds.the_lemmas),
      (
        (λ n q. node_kept _ _ _ _ n i.made.grown (c.requires.frees n (any_field (has_free n) c.args.fields.now 0 _ lt is q))),
        all_field is_closed c.args.fields.now 0 _ lt is c.requires.closed,
      ),
    )

pub build_named-build_ty-requires : goal.build_named-build_ty-requires
build_named-build_ty-requires t c =
    let i = c.loop-left.invariant in
    let h = i.high in
    let lt : c.loop-left.left - 1 < length c.args.args.now = omega arith in
    let is = c.index-args-left.is in (
      search (rules, TheFolds.the_lemmas),
      (
        (λ n q. node_kept _ _ _ _ n i.made.grown (c.requires.frees n (any_arg (has_free n) c.args.args.now (c.loop-left.left - 1) _ lt is q))),
        all_arg is_closed c.args.args.now (c.loop-left.left - 1) _ lt is c.requires.closed,
      ),
    )

pub build_named-build_ty-requires-2 : goal.build_named-build_ty-requires-2
build_named-build_ty-requires-2 t c =
    let i = c.loop-left.invariant in
    let h = i.high in
    let lo = i.low in
    let lt : 0 < length c.args.args.now = omega arith in
    let is = c.index-args-0.is in (
      search (rules, TheFolds.the_lemmas),
      (
        (λ n q. node_kept _ _ _ _ n i.made.grown (c.requires.frees n (any_arg (has_free n) c.args.args.now 0 _ lt is q))),
        all_arg is_closed c.args.args.now 0 _ lt is c.requires.closed,
      ),
    )

pub build_record-loop-left-preserved : goal.build_record-loop-left-preserved
build_record-loop-left-preserved t c =
    let i = c.loop-left.invariant in
    let h = i.high in
    let lo = i.low in
    let lt : c.loop-left.left - 1 < length c.args.fields.now = omega arith in
    let d : c.loop-left.left ≡ suc (c.loop-left.left - 1) = omega arith in
    let one : 1 ≤ c.loop-left.left - 1 = omega arith in
    row_field c.args.self.now c.loop-left.self c.build_ty.new.self c.add_field.new.self c.args.fields.now (c.loop-left.left - 1) c.loop-left.left (length c.args.fields.now) c.loop-left.rest c.in_ok-ty.ty c.in_ok-rest-2.rest _ lt c.index-fields-left.is d one i c.in_ok-ty.ensures c.in_ok-rest-2.ensures

pub build_record-returns : goal.build_record-returns
build_record-returns t c =
    let i = c.loop-left.invariant in
    let h = i.high in
    let lo = i.low in
    let lt : 0 < length c.args.fields.now = omega arith in
    let d : c.loop-left.left ≤ 1 = omega arith in
    row_record c.args.self.now c.loop-left.self c.build_ty-2.new.self c.add_record.new.self c.args.fields.now c.loop-left.left (length c.args.fields.now) c.loop-left.rest c.in_ok-ty-2.ty c.in_ok-node-2.node _ lt c.index-fields-0.is d i c.in_ok-ty-2.ensures c.in_ok-node-2.ensures

pub build_named-loop-left-preserved : goal.build_named-loop-left-preserved
build_named-loop-left-preserved t c =
    let i = c.loop-left.invariant in
    let h = i.high in
    let lo = i.low in
    let lt : c.loop-left.left - 1 < length c.args.args.now = omega arith in
    let d : c.loop-left.left ≡ suc (c.loop-left.left - 1) = omega arith in
    let one : 1 ≤ c.loop-left.left - 1 = omega arith in
    row_arg c.args.self.now c.loop-left.self c.build_ty.new.self c.add_pair.new.self c.args.args.now (c.loop-left.left - 1) c.loop-left.left (length c.args.args.now) c.loop-left.rest c.in_ok-ty.ty c.in_ok-rest-2.rest _ lt c.index-args-left.is d one i c.in_ok-ty.ensures c.in_ok-rest-2.ensures

pub build_named-returns : goal.build_named-returns
build_named-returns t c =
    let i = c.loop-left.invariant in
    let h = i.high in
    let lo = i.low in
    let lt : 0 < length c.args.args.now = omega arith in
    let d : c.loop-left.left ≤ 1 = omega arith in
    row_named c.args.self.now c.loop-left.self c.build_ty-2.new.self c.add_pair-2.new.self c.args.name c.args.args.now c.loop-left.left (length c.args.args.now) c.loop-left.rest c.in_ok-ty-2.ty c.in_ok-node-2.node _ lt c.index-args-0.is d i c.in_ok-ty-2.ensures c.in_ok-node-2.ensures

pub build_ty-build_record-requires : goal.build_ty-build_record-requires
build_ty-build_record-requires t c =
    let fs = c.in-Fields.fields in (
      search (rules, TheFolds.the_lemmas),
      (
        (λ n q. c.requires.frees n (subst (λ (x : Ty). IsTrue (has_free n x)) (sym c.in-Fields.is) (subst IsTrue (sym (free_fields n fs)) (subst (λ (l : List (Label × Ty)). IsTrue (list_any (λ f. f) (seconds (map_second (has_free n) l)))) c.items.ensures q)))),
        subst (λ (l : List (Label × Ty)). IsTrue (list_all (λ f. f) (seconds (map_second is_closed l)))) (sym c.items.ensures) (subst IsTrue (closed_fields fs) (subst (λ (x : Ty). IsTrue (is_closed x)) c.in-Fields.is c.requires.closed)),
      ),
    )

pub build_ty-build_named-requires : goal.build_ty-build_named-requires
build_ty-build_named-requires t c =
    let ts = c.in-Con.args in (
      search (rules, TheFolds.the_lemmas),
      (
        (λ n q. c.requires.frees n (subst (λ (x : Ty). IsTrue (has_free n x)) (sym c.in-Con.is) (subst IsTrue (sym (free_args n c.in-Con.name ts)) (subst (λ (l : List Ty). IsTrue (list_any (λ f. f) (map (has_free n) l))) c.items-in-Con.ensures q)))),
        subst (λ (l : List Ty). IsTrue (list_all (λ f. f) (map is_closed l))) (sym c.items-in-Con.ensures) (subst IsTrue (closed_args c.in-Con.name ts) (subst (λ (x : Ty). IsTrue (is_closed x)) c.in-Con.is c.requires.closed)),
      ),
    )

pub build_ty-build_ty-requires : goal.build_ty-build_ty-requires
build_ty-build_ty-requires t c =
    let a = c.in-Arrow.from in
    let b = c.in-Arrow.to in
    let both = and_both (is_closed a) (is_closed b) (subst IsTrue (closed_arrow a b) (subst (λ (x : Ty). IsTrue (is_closed x)) c.in-Arrow.is c.requires.closed)) in (
      search (rules, TheFolds.the_lemmas),
      (
        (λ n q. c.requires.frees n (subst (λ (x : Ty). IsTrue (has_free n x)) (sym c.in-Arrow.is) (subst IsTrue (sym (free_arrow n a b)) (or_first (has_free n a) (has_free n b) (subst (λ (x : Ty). IsTrue (has_free n x)) c.get.ensures q))))),
        subst (λ (x : Ty). IsTrue (is_closed x)) (sym c.get.ensures) both.0,
      ),
    )

pub build_ty-build_ty-requires-in-Arrow : goal.build_ty-build_ty-requires-in-Arrow
build_ty-build_ty-requires-in-Arrow t c =
    let a = c.in-Arrow.from in
    let b = c.in-Arrow.to in
    let both = and_both (is_closed a) (is_closed b) (subst IsTrue (closed_arrow a b) (subst (λ (x : Ty). IsTrue (is_closed x)) c.in-Arrow.is c.requires.closed)) in
    let g = c.in_ok-a-in-Arrow.ensures.grown in (
      search (rules, TheFolds.the_lemmas),
      (
        (λ n q. node_kept _ _ _ _ n g (c.requires.frees n (subst (λ (x : Ty). IsTrue (has_free n x)) (sym c.in-Arrow.is) (subst IsTrue (sym (free_arrow n a b)) (or_second (has_free n a) (has_free n b) (subst (λ (x : Ty). IsTrue (has_free n x)) c.get-in-Arrow.ensures q)))))),
        subst (λ (x : Ty). IsTrue (is_closed x)) (sym c.get-in-Arrow.ensures) both.1,
      ),
    )

pub build_ty-returns-in-Free : goal.build_ty-returns-in-Free
build_ty-returns-in-Free t c =
    let n = c.in-Free.node in
    let h = c.requires.frees n (subst (λ (x : Ty). IsTrue (has_free n x)) (sym c.in-Free.is) (free_free n)) in
    made_as c.args.self.now c.args.self.now n sort.Type (λ θ. θ n) (λ θ. under θ c.args.ty.now) (λ θ. sym (under_free θ n) ∙ ap (λ (x : Ty). under θ x) (sym c.in-Free.is)) (made_free c.args.self.now n h)

pub build_ty-returns-in_ok-node-in-Fields : goal.build_ty-returns-in_ok-node-in-Fields
build_ty-returns-in_ok-node-in-Fields t c =
    made_as c.args.self.now c.build_record.new.self c.in_ok-node-in-Fields.node sort.Type (λ θ. fields_tree (map_second (under θ) c.items.result.now)) (λ θ. under θ c.args.ty.now)
    (λ θ. ap (λ (l : List (Label × Ty)). fields_tree (map_second (under θ) l)) c.items.ensures ∙ sym (under_fields θ c.in-Fields.fields) ∙ ap (λ (x : Ty). under θ x) (sym c.in-Fields.is)) c.in_ok-node-in-Fields.ensures

pub build_ty-returns-in_ok-node-in-Arrow : goal.build_ty-returns-in_ok-node-in-Arrow
build_ty-returns-in_ok-node-in-Arrow t c =
    made_as c.args.self.now c.add_pair.new.self c.in_ok-node-in-Arrow.node sort.Type (λ θ. Fork Arrow (under θ c.get.result.now) (under θ c.get-in-Arrow.result.now)) (λ θ. under θ c.args.ty.now)
    (λ θ. ap (λ (x : Ty). Fork Arrow (under θ x) (under θ c.get-in-Arrow.result.now)) c.get.ensures ∙ ap (λ (x : Ty). Fork Arrow (under θ c.in-Arrow.from) (under θ x)) c.get-in-Arrow.ensures ∙ sym (under_arrow θ c.in-Arrow.from c.in-Arrow.to) ∙ ap (λ (x : Ty). under θ x) (sym c.in-Arrow.is))
    (made_fork c.args.self.now c.build_ty.new.self _ c.add_pair.new.self Arrow c.in_ok-a-in-Arrow.a c.in_ok-b-in-Arrow.b c.in_ok-node-in-Arrow.node sort.Type sort.Type (λ θ. under θ c.get.result.now) (λ θ. under θ c.get-in-Arrow.result.now)
    c.in_ok-a-in-Arrow.ensures c.in_ok-b-in-Arrow.ensures c.in_ok-node-in-Arrow.ensures)
