use Rattle.std.proofs.Common.{◌≡◌, length}
use Rattle.readers.specs.Reader.{mapped, row, token_by}
use Rattle.sml_fix.specs.Grouping.{atom, apply_of}
use Rattle.sml_fix.specs.Reading.{is_atom, atoms_read, spanned}
use Rattle.sml_fix.proofs.grouping.atoms.Given as goal

abbrev pub invariant-others : goal.invariant-others
invariant-others l = mapped apply_of atoms_read l.cells ≡ spanned l.start l.end (row is_atom (token_by atom) l.rest)

abbrev pub decreases-others : goal.decreases-others
decreases-others l = length l.rest
