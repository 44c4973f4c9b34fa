use Rattle.std.proofs.Common.{◌≡◌, drop, map}
use Rattle.std.specs.List.{list_all}
use Rattle.tl_text.specs.Pairs.{map_second, seconds}
use Rattle.eq_types.specs.Premises.{kind_in, supposes, admits_by}
use Rattle.eq_types.proofs.equality.+admits_in.Given as goal

abbrev pub invariant-fields_admit-loop-field : goal.invariant-fields_admit-loop-field
invariant-fields_admit-loop-field l =
    list_all (λ f. f) (seconds (map_second (admits_by (kind_in l.premises) (supposes l.premises)) (drop l.field-index l.fields)))
    ≡ list_all (λ f. f) (seconds (map_second (admits_by (kind_in l.premises) (supposes l.premises)) l.fields))

abbrev pub invariant-all_admit-loop-ty : goal.invariant-all_admit-loop-ty
invariant-all_admit-loop-ty l =
    list_all (λ a. a) (map (admits_by (kind_in l.premises) (supposes l.premises)) (drop l.ty-index l.tys))
    ≡ list_all (λ a. a) (map (admits_by (kind_in l.premises) (supposes l.premises)) l.tys)
