-- So a typed row runs as it means.
use Rattle.std.proofs.Common.{ℕ, zero, suc, refl}
use Rattle.beh.specs.Agree.{Agree}
use Rattle.run_types.proofs.Sound.{items_ok, mean_ok, ok_right}
use Rattle.run_types.specs.Safe.{GivensOk, Ok}
use Rattle.run_types.specs.TypedItems.{scope_has}
use Rattle.run_types.specs.Types.{HasItems, Holds, ScopeTy, World}
use Rattle.runs.proofs.Both.{rows_agree}
use Rattle.runs.specs.Items.{mean_items}
use Rattle.runs.specs.Meaning.{mean}
use Rattle.runs.specs.Ordered.{OrderedItems, OrderedMem, OrderedScope}
use Rattle.runs.specs.Primitives.{St}
use Rattle.runs.specs.Scope.{Scope}
use Rattle.runs.specs.Seen.{ConfigStep, at_start, behaviour, seen_config}
use Rattle.runs.specs.Tree.{Items}

-- a typed row ends well, in any state of the world; and what it leaves is typed again
pub row_ok : (n : ℕ) (is : Items) (w : World) (c d : ScopeTy) (e : Scope) (s : St) → GivensOk w.givens → scope_has c w e → HasItems w c is d → Holds w s → Ok (scope_has d) w (mean_items n e is s)
row_ok zero is w c d e s gl p t hm = tt
row_ok (suc n) is w c d e s gl p t hm = items_ok (mean n) w.givens (mean_ok w.givens gl n) is w c d e s refl p t hm

-- so a typed and ordered row runs, in any order, as it means
pub typed_agree : (is : Items) (w : World) (c d : ScopeTy) (e : Scope) (s : St) → GivensOk w.givens → scope_has c w e → HasItems w c is d → Holds w s → OrderedScope e → OrderedItems is → OrderedMem s.mem → Agree (λ n. behaviour (mean_items n e is s)) ConfigStep seen_config (at_start e is s)
typed_agree is w c d e s gl p t hm he hi hs = rows_agree e is s he hi hs (λ n. ok_right (scope_has d) w (mean_items n e is s) (row_ok n is w c d e s gl p t hm))
