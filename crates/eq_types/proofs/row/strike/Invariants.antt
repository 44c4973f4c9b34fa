use Rattle.std.proofs.Common.{◌≡◌, ◌<◌, ◌≤◌, ℕ, true, false, get_or}
use Rattle.std.specs.BTreeSet.{btree_set_len}
use Rattle.sml_static.specs.declared.mid.MidData.{MidData}
use Rattle.eq_types.specs.Rows.{Holds, Fits}
use Rattle.eq_types.proofs.row.strike.Given as goal

-- where nothing was struck out, the datatypes so far fit
abbrev pub invariant-loop-data : goal.invariant-loop-data
invariant-loop-data l = record {
  holds : Holds l.binds l.set;
  smaller : l.struck ≡ true → btree_set_len l.set < btree_set_len l.initial.set;
  no_larger : btree_set_len l.set ≤ btree_set_len l.initial.set;
  fit : l.struck ≡ false → (k : ℕ) (d : MidData) → k < l.data-index → Fits l.set (get_or l.binds k d);
}
