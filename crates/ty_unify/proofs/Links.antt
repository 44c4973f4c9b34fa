-- The order of links.
use Rattle.std.proofs.Common.{◌≡◌, ℕ, ◌+◌, ◌*◌, ◌%◌, ◌^◌, ◌<◌, ◌≤◌, Bool, true, false, ap, arith}
use Rattle.ty_unify.specs.Cells.{drawn, link_rank}

-- nodes of one rank are one node
pub one_rank : (a b : ℕ) → a < 2 ^ 64 → b < 2 ^ 64 → link_rank b ≤ link_rank a → link_rank a ≤ link_rank b → a ≡ b
unfolding link_rank
one_rank a b la lb n m = split (drawn a) (drawn b) a b la lb n m
  where
    split : (x y a b : ℕ) → a < 2 ^ 64 → b < 2 ^ 64 → y * 2 ^ 64 + b ≤ x * 2 ^ 64 + a → x * 2 ^ 64 + a ≤ y * 2 ^ 64 + b → a ≡ b
    split x y a b la lb n m = omega arith

-- the order, by the numbers drawn and then by the nodes
pub rank_below : (a b : ℕ) → a < 2 ^ 64 → b < 2 ^ 64 → (drawn a < drawn b) → link_rank a < link_rank b
unfolding link_rank
rank_below a b la lb h = split (drawn a) (drawn b) a b la lb h
  where
    split : (x y a b : ℕ) → a < 2 ^ 64 → b < 2 ^ 64 → x < y → x * 2 ^ 64 + a < y * 2 ^ 64 + b
    split x y a b la lb h = omega arith

pub rank_tied : (a b : ℕ) → drawn a ≡ drawn b → a < b → link_rank a < link_rank b
unfolding link_rank
rank_tied a b e h = split (drawn a) (drawn b) a b e h
  where
    split : (x y a b : ℕ) → x ≡ y → a < b → x * 2 ^ 64 + a < y * 2 ^ 64 + b
    split x y a b e h = omega arith

pub rank_no_less : (a b : ℕ) → drawn a ≡ drawn b → b ≤ a → link_rank b ≤ link_rank a
unfolding link_rank
rank_no_less a b e h = split (drawn a) (drawn b) a b e h
  where
    split : (x y a b : ℕ) → x ≡ y → b ≤ a → y * 2 ^ 64 + b ≤ x * 2 ^ 64 + a
    split x y a b e h = omega arith

-- no rank is higher
pub rank_bound : (i : ℕ) → i < 2 ^ 64 → link_rank i < 2 ^ 128
unfolding link_rank
rank_bound i l = split (i * 11400714819323198485) i l
  where
    split : (x i : ℕ) → i < 2 ^ 64 → x % 2 ^ 64 * 2 ^ 64 + i < 2 ^ 128
    split x i l = omega arith
