-- One turn of a replay: one more call with its reply, at the end of the lists, is the newest exchange that was performed. And
-- what was performed is a history.
-- Assumes nothing.
use Rattle.std.proofs.Common.{◌≡◌, ℕ, ◌+◌, ◌<◌, List, [], ◌∷◌, ◌++◌, reverse, length, get_or, take, sym, refl, ap, ◌∙◌, subst, arith, length-take-le}
use mathlib.Core.List.{reverse-append}
use Rattle.std.proofs.lemmas.List.{take_more}
use Rattle.control.specs.Systems.{System}
use Rattle.sessions.specs.Calls.{Does}
use Rattle.sessions.specs.Histories.{Exchange, History}
use Rattle.sessions.specs.Histories.History.{new as begun, next as further}
use Rattle.theory.specs.declared.moves.Move.{Move}
use Rattle.histories.specs.Performing.{Lent, Performed}
use Rattle.histories.specs.Performing.Performed.{new, next}
use Rattle.sessions.specs.Status.{Status}
use Rattle.sessions.specs.declared.call.Call.{Call}
use Rattle.sessions.specs.declared.call.Reply.{Reply}
use Rattle.histories.specs.Lists.{paired, exchanges}

paired_more : (cs : List Call) (rs : List Reply) (c : Call) (r : Reply) → length cs ≡ length rs → paired (cs ++ c ∷ []) (rs ++ r ∷ []) ≡ paired cs rs ++ (c, r) ∷ []
paired_more [] [] c r same = refl
paired_more [] (x ∷ rs) c r same = absurd (omega arith)
paired_more (x ∷ cs) [] c r same = absurd (omega arith)
paired_more (x ∷ cs) (y ∷ rs) c r same = ap (λ l. (x, y) ∷ l) (paired_more cs rs c r (omega arith))

exchanges_more : (calls : List Call) (rs : List Reply) (k : ℕ) (c : Call) (r : Reply) → k < length calls → length rs ≡ k → c ≡ get_or calls k c → exchanges (take (k + 1) calls) (rs ++ r ∷ []) ≡ (c, r) ∷ exchanges (take k calls) rs
exchanges_more calls rs k c r within long at =
    let front : take (k + 1) calls ≡ take k calls ++ c ∷ [] = take_more calls k c within ∙ ap (λ x. take k calls ++ x ∷ []) (sym at) in
    let even : length (take k calls) ≡ length rs = length-take-le k calls (omega arith) ∙ sym long in
    ap (λ l. reverse (paired l (rs ++ r ∷ []))) front
    ∙ ap reverse (paired_more (take k calls) rs c r even)
    ∙ reverse-append (paired (take k calls) rs) ((c, r) ∷ [])

module _ (w : System) (cells : List ℕ) (trace : List Move) where
  pub one_more : (calls : List Call) (rs rs' : List Reply) (k : ℕ) (c : Call) (r : Reply) (s s' : Status) (d d' : List ℕ) (t t' : List Move) → k < length calls → length rs ≡ k → c ≡ get_or calls k c → rs' ≡ rs ++ r ∷ []
      → Performed w cells trace (exchanges (take k calls) rs) s d t → Does w s c r s' → Lent w c r d d' t t' → Performed w cells trace (exchanges (take (k + 1) calls) rs') s' d' t'
  one_more calls rs rs' k c r s s' d d' t t' within long at is past does lent =
      let more = ap (exchanges (take (k + 1) calls)) is ∙ exchanges_more calls rs k c r within long at in
      subst (λ h. Performed w cells trace h s' d' t') (sym more) (next past does lent)

  -- what was performed is a history
  pub as_history : {h : List Exchange} {s : Status} {d : List ℕ} {t : List Move} → Performed w cells trace h s d t → History w h s
  as_history new = begun
  as_history (next past does lent) = further (as_history past) does
