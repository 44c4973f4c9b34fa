use Rattle.std.proofs.Common.{◌≡◌, take}
use Rattle.tl_session.specs.Written.{base_of}
use Rattle.tl_session.proofs.Bases.{is_cut_in}
use Rattle.tl_session.proofs.base.base_bytes.Given as goal

abbrev pub invariant-loop-byte : goal.invariant-loop-byte
invariant-loop-byte l = record { base_so_far : l.base.items ≡ base_of (take l.byte-index l.name); cut_so_far : l.is_cut ≡ is_cut_in (take l.byte-index l.name) }
