-- Small units, evaluated.
use Rattle.std.proofs.Common.{◌≡◌, ℕ, suc, [], refl}
use Rattle.std.specs.Prelude.{codes}
use Rattle.beh.specs.Behaviour.{Ended, Raised}
use Rattle.mid_rules.specs.Examples.{aliased, bound_together, by_dictionary, divides, left_to_right, made_anew, no_binding, no_rule_takes, references, too_large, used_later}
use Rattle.mid_rules.specs.Mid.{Meaning}

pub left_to_right_means : (n : ℕ) → Meaning left_to_right (suc (suc n)) ≡ record { output = codes "ab"; ending = Ended }
left_to_right_means n = refl

pub used_later_means : (n : ℕ) → Meaning used_later (suc (suc n)) ≡ record { output = codes "p"; ending = Ended }
used_later_means n = refl

pub no_rule_takes_means : (n : ℕ) → Meaning no_rule_takes (suc (suc n)) ≡ record { output = []; ending = Raised (codes "Match") }
no_rule_takes_means n = refl

pub no_binding_means : (n : ℕ) → Meaning no_binding (suc n) ≡ record { output = []; ending = Raised (codes "Bind") }
no_binding_means n = refl

pub bound_together_means : (n : ℕ) → Meaning bound_together (suc (suc n)) ≡ record { output = codes "old"; ending = Ended }
bound_together_means n = refl

pub too_large_means : (n : ℕ) → Meaning too_large (suc (suc n)) ≡ record { output = []; ending = Raised (codes "Overflow") }
too_large_means n = refl

pub aliased_means : (n : ℕ) → Meaning aliased (suc n) ≡ record { output = codes "own"; ending = Ended }
aliased_means n = refl

pub by_dictionary_means : (n : ℕ) → Meaning by_dictionary (suc (suc (suc (suc (suc n))))) ≡ record { output = codes "yn"; ending = Ended }
by_dictionary_means n = refl

pub made_anew_means : (n : ℕ) → Meaning made_anew (suc (suc (suc (suc (suc (suc (suc n))))))) ≡ record { output = codes "outer"; ending = Ended }
made_anew_means n = refl

pub divides_means : (n : ℕ) → Meaning divides (suc (suc n)) ≡ record { output = codes "yy"; ending = Raised (codes "Div") }
divides_means n = refl

pub references_mean : (n : ℕ) → Meaning references (suc (suc n)) ≡ record { output = codes "yyn"; ending = Ended }
references_mean n = refl
