-- A comment read byte by byte: what is kept is the byte before, as far as it may begin a mark, and how many are open.
use Rattle.std.specs.Prelude.{ℕ, suc, ◌-◌, Bool, false, List, [], ◌∷◌, Option, Some, None, ◌==◌, ◌&&◌, if◌then◌else◌}
use Rattle.sml_lex.specs.declared.comment.Before.{Before}
use Rattle.sml_lex.specs.declared.comment.Before.TheVariants.{Other, Paren, Star}

abbrev pub after_other : ℕ → Before
after_other c = if c == 40 then Paren else (if c == 42 then Star else Other)

abbrev pub after : Before → ℕ → Before
after Paren c = if c == 42 then Other else after_other c
after Star c = if c == 41 then Other else after_other c
after Other c = after_other c

abbrev pub depth_after : Before → ℕ → ℕ → ℕ
depth_after Paren c d = if c == 42 then suc d else d
depth_after Star c d = if c == 41 then d - 1 else d
depth_after Other c d = d

abbrev pub is_end : Before → ℕ → ℕ → Bool
is_end Star c d = c == 41 && d == 0
is_end Paren c d = false
is_end Other c d = false

-- what follows the comment
unfoldable pub run : Before → ℕ → List ℕ → Option (List ℕ)
run b d [] = None
run b d (c ∷ s) = if is_end b c d then Some s else run (after b c) (depth_after b c d) s
