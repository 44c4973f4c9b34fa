use Rattle.std.proofs.Common.{◌≡◌, map, drop}
use Rattle.std.specs.List.{list_any}
use Rattle.std.specs.Str.{bytes_eq}
use Rattle.smltl.proofs.list.is_given.Given as goal

-- what is left tells what all tell
abbrev pub invariant-loop-name : goal.invariant-loop-name
invariant-loop-name l =
    list_any (λ name. bytes_eq name l.line) (map (λ n. n.now) (drop l.name-index l.names)) ≡ list_any (λ name. bytes_eq name l.line) (map (λ n. n.now) l.names)
