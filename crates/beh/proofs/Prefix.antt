-- What the test of a beginning says of two behaviours.
use Rattle.std.proofs.Common.{◌≡◌, Bool, IsTrue, ◌↔◌, subst, drop, length}
use Rattle.std.specs.List.{starts_with}
use Rattle.std.proofs.lemmas.Slice.Eq.{starts_is}
use Rattle.std.proofs.lemmas.Bool.Decides.{Decides-eqb}
use lib.Dec.{eqb}
use Rattle.beh.specs.Behaviour.{More, Behaviour, IsOver, Extends}

pub open_extends : (long short : Behaviour) (r : Bool) → short.ending ≡ More → r ≡ starts_with eqb long.output short.output → IsTrue r ↔ Extends long short
open_extends long short r e h =
    let d = starts_is Decides-eqb long.output short.output r h in (
      (λ t. record { begins = (drop (length short.output) long.output, d.0 t); over = λ o. absurd (subst IsOver e o) }),
      (λ x. d.1 x.begins.0 x.begins.1),
    )
