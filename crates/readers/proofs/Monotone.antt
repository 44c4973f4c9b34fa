-- Phrases of greater heights are phrases.
use Rattle.std.proofs.Common.{Bool, List, inl, inr}
use Rattle.readers.specs.Language.{Both, Either, Skip, Close}
use Rattle.readers.specs.Room.{Room, Under}

abbrev pub Mono : {K T : Type 0} → (Room → T → List K → Type 0) → Type 0
Mono {K} {T} D = (h k : Room) (x : T) (w : List K) → Under h k → D h x w → D k x w

pub both_mono : {K S T : Type 0} (D : Room → S → List K → Type 0) (E : Room → T → List K → Type 0) → Mono D → Mono E → Mono (λ k. Both (D k) (E k))
both_mono D E f g h k x w le d = record { front = d.front; back = d.back; left = f h k x.0 d.front le d.left; right = g h k x.1 d.back le d.right; whole = d.whole }

pub skip_mono : {K T : Type 0} (test : K → Bool) (D : Room → T → List K → Type 0) → Mono D → Mono (λ k. Skip test (D k))
skip_mono test D f h k x w le d = record { front = d.front; back = d.back; left = d.left; right = f h k x d.back le d.right; whole = d.whole }

pub close_mono : {K T : Type 0} (D : Room → T → List K → Type 0) (test : K → Bool) → Mono D → Mono (λ k. Close (D k) test)
close_mono D test f h k x w le d = record { front = d.front; back = d.back; left = f h k x d.front le d.left; right = d.right; whole = d.whole }

pub either_mono : {K S T : Type 0} (D : Room → S → List K → Type 0) (E : Room → T → List K → Type 0) → Mono D → Mono E → Mono (λ k. Either (D k) (E k))
either_mono D E f g h k (inl x) w le d = f h k x w le d
either_mono D E f g h k (inr y) w le d = g h k y w le d
