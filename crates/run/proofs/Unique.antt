-- A text gets one list of replies, but for which of the shortest runs a clash shows. It tells one deck or has one fault, of
-- the deck a problem is made or not, and the check of that problem has one answer; only a clash is shown by what the trace
-- holds, and then as many records of it as the clash has moves. Assumes nothing.
use Rattle.std.proofs.Common.{◌≡◌, ℕ, min, List, [], ◌∷◌, length, take, Ok, Err, Result, sym, ap, ◌∙◌, subst, arith, length-take}
use Rattle.std.proofs.lemmas.List.{length-take-le}
use Rattle.control.specs.Problems.{unmade_number}
use Rattle.control.specs.Systems.{System}
use Rattle.control.specs.declared.problem.Unmade.{Unmade}
use Rattle.theory.specs.declared.moves.Move.{Move}
use Rattle.checking.specs.Answers.{Checked, Clashes}
use Rattle.checking.specs.declared.verdict.Refusal.{Refusal as Unchecked}
use Rattle.checking.specs.declared.verdict.Verdict.{Verdict}
use Rattle.checking.specs.declared.verdict.Verdict.TheVariants.{Clear, Clash}
use Rattle.frames.specs.Replies.{fault_layer, fault_line, fault_number}
use Rattle.decks.specs.Decks.{Tells}
use Rattle.decks.specs.Said.{Said}
use Rattle.decks.proofs.Unique.{faulty_once, tells_once, tells_or_faulty}
use Rattle.replies.specs.Decks.{Gets, check_replies, makes, most_moves, said_system}
use Rattle.replies.specs.Decks.Gets.{unread, unmade, checked}
use Rattle.replies.specs.Lines.{Reply, clash, fault}
use Rattle.run.specs.Only.{Alike, Only}
use Rattle.run.specs.Only.Alike.{same, clashes}
use Rattle.run.proofs.Rooms.{front_fits}
use Rattle.run.proofs.Verdicts.{checked_once}

equal : {rs ss : List Reply} → rs ≡ ss → Alike rs ss
equal {rs} is = subst (Alike rs) is (same rs)

-- both begin with one clash
begun : {j k : ℕ} {rs ss : List Reply} (e : ℕ) → j ≡ k → Alike (clash e j ∷ rs) (clash e k ∷ ss)
begun {j} {k} {rs} {ss} e is = subst (λ n. Alike (clash e j ∷ rs) (clash e n ∷ ss)) is (clashes e j rs ss)

-- the run that shows a clash has as many records as moves
shown : (w : System) (cells : List ℕ) (trace trace' : List Move) (e k : ℕ) → Clashes w cells (take most_moves trace) (take most_moves trace') e k → length (take k trace') ≡ k
shown w cells trace trace' e k h = length-take-le k trace' (front_fits most_moves k trace' (omega (arith, h.room, h.same_length))).1

module _ (w : System) (plays c c' d d' : List ℕ) (t t' u u' : List Move) (as_many : length c ≡ length d) (as_long : length t ≡ length u) where
  -- the replies to one answer, from what either trace holds
  of_answer : (r : Result Verdict Unchecked) → Checked w c c' (take most_moves t) (take most_moves t') r → Checked w d d' (take most_moves u) (take most_moves u') r → Alike (check_replies w t' plays r) (check_replies w u' plays r)
  of_answer (Ok Clear) h x = same _
  of_answer (Ok (Clash e k)) h x = begun e (shown w c t t' e k h ∙ sym (shown w d u u' e k x))
  of_answer (Err why) h x = same _

  -- the check has one answer
  of_check : (r s : Result Verdict Unchecked) → Checked w c c' (take most_moves t) (take most_moves t') r → Checked w d d' (take most_moves u) (take most_moves u') s → Alike (check_replies w t' plays r) (check_replies w u' plays s)
  of_check r s h x =
      let front : length (take most_moves t) ≡ length (take most_moves u) = length-take most_moves t ∙ ap (min most_moves) as_long ∙ sym (length-take most_moves u) in
      let one = checked_once w c c' d d' (take most_moves t) (take most_moves t') (take most_moves u) (take most_moves u') r s as_many front h x in
      subst (λ a. Checked w d d' (take most_moves u) (take most_moves u') a → Alike (check_replies w t' plays r) (check_replies w u' plays a)) one (of_answer r h) x

-- of one deck a problem is made or not
made_or_unmade : (text : List ℕ) (x y : Said) (why : Unmade) → Tells text x → Tells text y → makes x ≡ Err why → makes y ≡ Ok tt → ⊥
made_or_unmade text x y why tells others is made =
    let both = sym is ∙ ap makes (tells_once text x y tells others) ∙ made in
    let z : ◌≡◌ {A = ℕ} 0 1 = cc in
    omega arith

module _ (text c c' d d' : List ℕ) (t t' u u' : List Move) (as_many : length c ≡ length d) (as_long : length t ≡ length u) where
  -- whatever two runs of one text get, with as many cells and records
  alike : (rs ss : List Reply) → Gets text c c' t t' rs → Gets text d d' u u' ss → Alike rs ss
  alike rs ss (unread why h cells trace) (unread other k cells₂ trace₂) =
      equal (ap (λ f. fault (fault_layer f) (fault_line f) (fault_number f) ∷ []) (faulty_once text why other h k))
  alike rs ss (unread why h cells trace) (unmade y other tells is cells₂ trace₂) = absurd (tells_or_faulty text y why tells h)
  alike rs ss (unread why h cells trace) (checked y s tells is k past) = absurd (tells_or_faulty text y why tells h)
  alike rs ss (unmade x why tells is cells trace) (unread other k cells₂ trace₂) = absurd (tells_or_faulty text x other tells k)
  alike rs ss (unmade x why tells is cells trace) (unmade y other tells₂ is₂ cells₂ trace₂) =
      let both = sym is ∙ ap makes (tells_once text x y tells tells₂) ∙ is₂ in
      let one : why ≡ other = cc in
      equal (ap (λ a. fault 3 1 (unmade_number a) ∷ []) one)
  alike rs ss (unmade x why tells is cells trace) (checked y s tells₂ is₂ k past) = absurd (made_or_unmade text x y why tells tells₂ is is₂)
  alike rs ss (checked x r tells is h past) (unread other k cells trace) = absurd (tells_or_faulty text x other tells k)
  alike rs ss (checked x r tells is h past) (unmade y other tells₂ is₂ cells trace) = absurd (made_or_unmade text y x other tells₂ tells is₂ is)
  alike rs ss (checked x r tells is h past) (checked y s tells₂ is₂ k past₂) =
      subst (λ z. Checked (said_system z) d d' (take most_moves u) (take most_moves u') s → Alike (check_replies (said_system x) t' x.plays r) (check_replies (said_system z) u' z.plays s)) (tells_once text x y tells tells₂) (of_check (said_system x) x.plays c c' d d' t t' u u' as_many as_long r s h) k

pub only : (text : List ℕ) (m n : ℕ) → Only text m n
only text m n rs ss a b =
    alike text a.cells a.cells' b.cells b.cells' a.trace a.trace' b.trace b.trace' (a.so_many_cells ∙ sym b.so_many_cells) (a.so_many_records ∙ sym b.so_many_records) rs ss a.gets b.gets
