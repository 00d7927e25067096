-- What an array's `map` asks of its closure: that it may be called at each element. Assumes nothing.
use Rattle.std.proofs.Common.{◌≡◌, List, [], ◌∷◌, Some, ◌∙◌, subst, subst₂}
use Rattle.std.specs.Array.{list_steps}
use Rattle.std.specs.Iterator.{Yields, CallableAtEachTurn}
use Rattle.std.specs.List.{FoldsTo}

abbrev pub AtEach : {A : Type 0} → (A → Type 0) → List A → Type 0
AtEach Q [] = Unit {0}
AtEach Q (x ∷ xs) = Q x × AtEach Q xs

module _ {A P : Type 0} (R : P → A → P → Type 0) (Q : P → A → Type 0) where
  -- a closure that no call changes may be called where it may be at each element
  turns : (f : P) → ((x : A) (q : P) → R f x q → q ≡ f) → (s : List A) → AtEach (Q f) s → (xs t : List A) (q : P) (x : A) (u : List A) → Yields list_steps s xs t → FoldsTo R f xs q → list_steps t (Some x) u → Q q x
  turns f still [] each [] t q x u took runs next = absurd (let gone : ◌≡◌ {A = List A} [] (x ∷ u) = took ∙ next in cc)
  turns f still [] each (y ∷ ys) t q x u (j, step, more) runs next = absurd (cc)
  turns f still (a ∷ rest) (here, each) [] t q x u took runs next =
      let first : a ∷ rest ≡ x ∷ u = took ∙ next in
      let same : a ≡ x = cc in
      subst₂ Q runs same here
  turns f still (a ∷ rest) (here, each) (y ∷ ys) t q x u (j, step, more) (p, call, after) next =
      let first : y ≡ a = cc in
      let left : j ≡ rest = cc in
      turns f still rest each ys t q x u (subst (λ l. Yields list_steps l ys t) left more) (subst (λ o. FoldsTo R o ys q) (still y p call) after) next

  pub callable_at_each : (f : P) (s : List A) → ((x : A) (q : P) → R f x q → q ≡ f) → AtEach (Q f) s → CallableAtEachTurn list_steps R Q s f
  callable_at_each f s still each = record { at = turns f still s each }
