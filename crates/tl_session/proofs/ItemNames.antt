-- The names of items: none is print, and unlike ones are written unlike.
use Rattle.std.proofs.Common.{◌≡◌, ℕ, List, [], ◌∷◌, true, false}
use Rattle.std.specs.Prelude.{codes}
use Rattle.std.specs.Str.{bytes_eq}
use Rattle.std.proofs.lemmas.Slice.Eq.{bytes_eq-Decides}
use Rattle.oc_names.specs.Mangled.{may_name, mangled}
use Rattle.oc_names.specs.declared.names.NameKind.TheVariants as kind
use Rattle.oc_names.proofs.Spellings.{one_name}
use Rattle.oc_rules.proofs.Tests.{both_ways}
use Rattle.built_items.specs.declared.item.SourceItem.{SourceItem}
use Rattle.built_items.specs.declared.item.Target.{Target}
use Rattle.built_items.specs.declared.item.Target.TheVariants as target
use Rattle.tl_session.proofs.UnitNames.{bytes_differ}

-- a variable is not print, and its name has a spelling
abbrev pub LeavesTarget : Target → Type 0
LeavesTarget target.Wild = Unit {0}
LeavesTarget (target.Var x) = (bytes_eq x (codes "print") ≡ false) × (may_name kind.Value x ≡ true)

-- no item binds print, and each name has a spelling
abbrev pub LeavesPrint : List SourceItem → Type 0
LeavesPrint [] = Unit {0}
LeavesPrint (i ∷ is) = LeavesTarget i.target × LeavesPrint is

abbrev pub AllLeavePrint : List (List SourceItem) → Type 0
AllLeavePrint [] = Unit {0}
AllLeavePrint (p ∷ ps) = LeavesPrint p × AllLeavePrint ps

-- names that differ are written by names that differ
pub written_differ : (y x : List ℕ) → may_name kind.Value y ≡ true → may_name kind.Value x ≡ true → bytes_eq y x ≡ false
    → bytes_eq (mangled kind.Value y) (mangled kind.Value x) ≡ false
written_differ y x p q other =
    bytes_differ (mangled kind.Value y) (mangled kind.Value x) (λ e. both_ways (bytes_eq y x) ((bytes_eq-Decides y x).1 (one_name kind.Value y x p q e)) other)
