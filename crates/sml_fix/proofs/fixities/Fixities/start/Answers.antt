use Rattle.std.proofs.Common.{refl}
use Rattle.sml_fix.proofs.fixities.Fixities.start.Goals as goal

pub returns : goal.returns
returns c = rw (c.in_ok-set_all-6.ensures, c.in_ok-set_all-5.ensures, c.in_ok-set_all-4.ensures, c.in_ok-set_all-3.ensures, c.in_ok-set_all-2.ensures, c.in_ok-set_all.ensures, c.none-fixities.ensures) refl
