-- Plays in turn: the answers to one more play are one more answer, from the session that the plays before it leave. Each
-- answer is a line of fifteen bytes. Assumes nothing.
use Rattle.std.proofs.Common.{◌≡◌, ℕ, ◌+◌, ◌<◌, List, [], ◌∷◌, ◌++◌, length, get_or, take, sym, refl, ap, ◌∙◌}
use Rattle.std.proofs.lemmas.List.{append-nil, take_more}
use Rattle.control.specs.Systems.{System}
use Rattle.frames.specs.Replies.{written}
use Rattle.sessions.specs.Status.{Status}
use Rattle.replies.specs.Lines.{bytes_of, text_of}
use Rattle.replies.specs.Plays.{after_play, play_replies, play_reply}
use Rattle.replies.proofs.Appending.{text_append}

-- the session that plays leave
unfoldable pub after_plays : System → Status → List ℕ → Status
after_plays w s [] = s
after_plays w s (e ∷ es) = after_plays w (after_play w s e) es

pub no_plays : (w : System) (s : Status) → after_plays w s [] ≡ s
unfolding after_plays
no_plays w s = refl

after_append : (w : System) (s : Status) (es : List ℕ) (e : ℕ) → after_plays w s (es ++ e ∷ []) ≡ after_play w (after_plays w s es) e
unfolding after_plays
after_append w s [] e = refl
after_append w s (d ∷ es) e = after_append w (after_play w s d) es e

replies_append : (w : System) (s : Status) (es : List ℕ) (e : ℕ) → play_replies w s (es ++ e ∷ []) ≡ play_replies w s es ++ play_reply w (after_plays w s es) e ∷ []
unfolding after_plays
replies_append w s [] e = refl
replies_append w s (d ∷ es) e = ap (λ l. play_reply w s d ∷ l) (replies_append w (after_play w s d) es e)

module _ (w : System) (s : Status) (es : List ℕ) (i : ℕ) (low : i < length es) where
  pub after_more : after_play w (after_plays w s (take i es)) (get_or es i 0) ≡ after_plays w s (take (i + 1) es)
  after_more = sym (after_append w s (take i es) (get_or es i 0)) ∙ ap (after_plays w s) (sym (take_more es i 0 low))

  pub replies_more : text_of (play_replies w s (take i es)) ++ written (bytes_of (play_reply w (after_plays w s (take i es)) (get_or es i 0))) ≡ text_of (play_replies w s (take (i + 1) es))
  replies_more =
      ap (λ l. text_of (play_replies w s (take i es)) ++ l) (sym (append-nil (written (bytes_of (play_reply w (after_plays w s (take i es)) (get_or es i 0))))))
      ∙ sym (text_append (play_replies w s (take i es)) (play_reply w (after_plays w s (take i es)) (get_or es i 0) ∷ []))
      ∙ ap text_of (sym (replies_append w s (take i es) (get_or es i 0)))
      ∙ ap (λ l. text_of (play_replies w s l)) (sym (take_more es i 0 low))
