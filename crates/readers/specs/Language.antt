-- Languages: which tokens a tree derives, and how they are made from one another.
use Rattle.std.specs.Prelude.{◌≡◌, ◌⊎◌, Bool, true, List, [], ◌∷◌, ◌++◌, Option, Some, None}
use Rattle.std.proofs.Common.{inl, inr}
use Rattle.readers.specs.declared.code.Code.{Code}
use Rattle.readers.specs.Reader.{first, barred}

-- the tokens are those of P and then those of Q
pub record Joined {K : Type 0} (P Q : List K → Type 0) (w : List K) : Type 0 where
  pub front : List K
  pub back : List K
  pub left : P front
  pub right : Q back
  pub whole : w ≡ front ++ back

-- a phrase, and one behind it
abbrev pub Both : {K S T : Type 0} → (S → List K → Type 0) → (T → List K → Type 0) → S × T → List K → Type 0
Both D E x = Joined (D x.0) (E x.1)

-- a phrase, and one that may depend on its tree, as on the fixities behind it
abbrev pub Bound : {K S T : Type 0} → (S → List K → Type 0) → (S → T → List K → Type 0) → S × T → List K → Type 0
Bound D E x = Joined (D x.0) (E x.0 x.1)

-- some phrase begins with these tokens
pub record Viable {K T : Type 0} (D : T → List K → Type 0) (u : List K) : Type 0 where
  pub tree : T
  pub more : List K
  pub derives : D tree (u ++ more)

-- one token that the test lets through
pub record That {K : Type 0} (test : K → Bool) (w : List K) : Type 0 where
  pub token : K
  pub fits : test token ≡ true
  pub whole : w ≡ token ∷ []

-- one token that shows a
pub record Shows {K A : Type 0} (view : K → Option A) (a : A) (w : List K) : Type 0 where
  pub token : K
  pub shows : view token ≡ Some a
  pub whole : w ≡ token ∷ []

-- phrases of two languages
abbrev pub Either : {K S T : Type 0} → (S → List K → Type 0) → (T → List K → Type 0) → S ⊎ T → List K → Type 0
Either D E (inl x) = D x
Either D E (inr y) = E y

-- phrases one after another
abbrev pub Row : {K T : Type 0} → (T → List K → Type 0) → List T → List K → Type 0
Row D [] w = w ≡ []
Row D (x ∷ xs) w = Joined (D x) (Row D xs) w

-- items one after another, where each may depend on those before it
abbrev pub Steps : {K X U : Type 0} → (X → U → X) → (X → U → List K → Type 0) → X → List U → List K → Type 0
Steps step S x [] w = w ≡ []
Steps step S x (u ∷ us) w = Joined (S x u) (Steps step S (step x u) us) w

-- the trees that f makes
abbrev pub As : {K S T : Type 0} → (S → T) → (S → List K → Type 0) → T → List K → Type 0
As {S = S} f C t w = (x : S) × (f x ≡ t) × C x w

-- phrases of two languages of one type of tree
abbrev pub Or : {K T : Type 0} → (T → List K → Type 0) → (T → List K → Type 0) → T → List K → Type 0
Or D E t w = D t w ⊎ E t w

-- a token before a phrase
abbrev pub Skip : {K T : Type 0} → (K → Bool) → (T → List K → Type 0) → T → List K → Type 0
Skip test D x = Joined (That test) (D x)

-- a phrase, and a token behind it
abbrev pub Close : {K T : Type 0} → (T → List K → Type 0) → (K → Bool) → T → List K → Type 0
Close D test x = Joined (D x) (That test)

-- phrases whose first token passes
abbrev pub Passing : {K T : Type 0} → (K → Option Code) → (T → List K → Type 0) → T → List K → Type 0
Passing bar D t w = (barred bar (first w) ≡ None) × D t w
