-- What it is that a reader reads a language exactly, and refuses at the right token with the right code.
use Rattle.std.specs.Prelude.{◌≡◌, ℕ, ◌≤◌, ◌⊎◌, Bool, true, not, ◌&&◌, List, [], ◌∷◌, ◌++◌, Option, Some, Ok, Err}
use Rattle.std.proofs.Common.{inl, inr}
use Rattle.readers.specs.declared.code.Code.{Code}
use Rattle.readers.specs.declared.code.Code.TheVariants.{Grammar}
use Rattle.readers.specs.Reader.{first, head_is, Reader}
use Rattle.readers.specs.Language.{Viable}
use Rattle.readers.specs.Room.{Room, at_height, Alike, Eased}

-- what was read, and that it cannot go on
pub record Found {K T : Type 0} (D : T → List K → Type 0) (stop : T → Option K → Bool) (s : List K) (z : T × List K) : Type 0 where
  pub read : List K
  pub derives : D z.0 read
  pub parts : s ≡ read ++ z.1
  pub stops : stop z.0 (first z.1) ≡ true

-- the reader gives exactly the phrases that cannot go on
pub record Reads {K T : Type 0} (D : T → List K → Type 0) (stop : T → Option K → Bool) (p : Reader K T) : Type 0 where
  pub complete : (t : T) (w r : List K) → D t w → stop t (first r) ≡ true → p (w ++ r) ≡ Ok (t, r)
  pub sound : (s : List K) (z : T × List K) → p s ≡ Ok z → Found D stop s z

-- in such a room a tree goes on with the refused token
pub record Goes {K T : Type 0} (D : Room → T → List K → Type 0) (code : Code) (h : Room) (u r : List K) : Type 0 where
  pub room : Room
  pub eased : Eased code h room
  pub token : K
  pub is : first r ≡ Some token
  pub viable : Viable (D room) (u ++ token ∷ [])

-- the first token with which nothing goes on
pub record Refuses {K T : Type 0} (D : Room → T → List K → Type 0) (p : Room → Reader K T) (h : Room) (s : List K) (e : Code × List K) : Type 0 where
  pub read : List K
  pub parts : s ≡ read ++ e.1
  pub viable : (read ≡ []) ⊎ Viable (D h) read
  pub local : (k : Room) (q : List K) → Alike e.0 h k → first q ≡ first e.1 → p k (read ++ q) ≡ Err (e.0, q)
  pub deep : (e.0 ≡ Grammar → ⊥) → Goes D e.0 h read e.1

-- nothing goes on with such a tree
abbrev pub always : {K T : Type 0} → T → Option K → Bool
always t o = true

-- what a tree of either cannot go on with
abbrev pub either_stop : {K S T : Type 0} → (S → Option K → Bool) → (T → Option K → Bool) → S ⊎ T → Option K → Bool
either_stop sd se (inl x) = sd x
either_stop sd se (inr y) = se y

-- what a row cannot go on with
abbrev pub row_stop : {K T : Type 0} → (K → Bool) → (T → Option K → Bool) → List T → Option K → Bool
row_stop test stop [] o = not (head_is test o)
row_stop test stop (x ∷ []) o = stop x o && not (head_is test o)
row_stop test stop (x ∷ y ∷ ys) o = row_stop test stop (y ∷ ys) o

-- what the alternative that a test opens is: its phrases begin so, are of at least this height, and each such token begins one
pub record Opens {K T : Type 0} (D : Room → T → List K → Type 0) (test : K → Bool) (low : ℕ) : Type 0 where
  pub begins : (h : Room) (t : T) (w : List K) → D h t w → head_is test (first w) ≡ true
  pub least : (h : Room) (t : T) (w : List K) → D h t w → low ≤ h.height
  pub starts : (c : K) → test c ≡ true → (b : Bool) → (h : ℕ) × (low ≤ h) × Viable (D (at_height h b)) (c ∷ [])
