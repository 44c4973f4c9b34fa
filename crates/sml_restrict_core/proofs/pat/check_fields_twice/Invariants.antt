use Rattle.std.proofs.Common.{◌≡◌, length, map}
use Rattle.sml_restrict_core.specs.Breaches.{after}
use Rattle.sml_restrict_core.specs.Patterns.{field_breaches, fields_twice}
use Rattle.sml_restrict_core.proofs.pat.check_fields_twice.Given as goal

abbrev pub invariant-loop-field : goal.invariant-loop-field
invariant-loop-field l = after l.found (fields_twice (map (λ f. f.0) (map field_breaches l.rest))) ≡ after l.initial.found (fields_twice (map (λ f. f.0) (map field_breaches l.fields)))

abbrev pub decreases-loop-field : goal.decreases-loop-field
decreases-loop-field l = length l.rest
