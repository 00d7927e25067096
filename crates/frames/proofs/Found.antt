-- The first line of a text is found exactly where one stands: the digits that are counted are digits, and where a line and
-- its line feed stand, the count is the line's length. Assumes nothing.
use Rattle.std.proofs.Common.{◌≡◌, ℕ, zero, suc, ◌+◌, ◌%◌, ◌<◌, ◌≤◌, true, false, List, [], ◌∷◌, ◌++◌, length, get_or, take, drop, Ok, Err, Result, sym, refl, ap, ◌∙◌, subst, ⊎_elim, add-one, arith, take-append-drop}
use Rattle.std.proofs.lemmas.List.{drop_more, get_or_past, get_or_at, take_at, length-take-le}
use Rattle.std.proofs.lemmas.Bool.{cases_Bool, cases_lt}
use Rattle.std.proofs.lemmas.Bool.Decides.{nat_tests}
use Rattle.frames.specs.Digits.{digital}
use Rattle.frames.specs.Lines.{BeginsWith, Digits, NoLine, first_line, line_feed, run}
use Rattle.frames.specs.declared.faults.LineFault.{LineFault}
use Rattle.frames.specs.declared.faults.LineFault.TheVariants.{Malformed}

-- at a digit the count goes on, and at any other byte it stops
run_digit : (b : ℕ) (bs : List ℕ) → digital b ≡ true → run (b ∷ bs) ≡ suc (run bs)
run_digit b bs is = grind arith

run_other : (b : ℕ) (bs : List ℕ) → digital b ≡ false → run (b ∷ bs) ≡ 0
run_other b bs is = grind arith

-- the digits that are counted
counted_digits : (text : List ℕ) (k : ℕ) → k ≡ run text → Digits (take k text)
counted_digits [] zero e = tt
counted_digits [] (suc k) e = tt
counted_digits (b ∷ bs) zero e = tt
counted_digits (b ∷ bs) (suc k) e =
    ⊎_elim (λ is. (is, counted_digits bs k (omega (arith, run_digit b bs is)))) (λ is. absurd (omega (arith, run_other b bs is))) (cases_Bool (digital b))

-- digits and then a line feed are counted whole
run_line : (l rest : List ℕ) → Digits l → run (l ++ line_feed ∷ rest) ≡ length l
run_line [] rest h = refl
run_line (d ∷ ds) rest h = run_digit d (ds ++ line_feed ∷ rest) h.0 ∙ ap suc (run_line ds rest h.1)

-- a place that holds a line feed lies within the text
fed : (text : List ℕ) (k : ℕ) → get_or text k 0 ≡ line_feed → k < length text
fed text k h = ⊎_elim (λ low. low) (λ past. absurd (omega (arith, get_or_past text k 0 past))) (cases_lt k (length text))

pub record Stands (text l rest : List ℕ) : Type 0 where
  pub low : 2 ≤ run text
  pub high : run text ≤ 64
  pub even : run text % 2 ≡ 0
  pub feed : get_or text (run text) 0 ≡ line_feed
  pub front : l ≡ take (run text) text
  pub back : rest ≡ drop (suc (run text)) text

told : (text : List ℕ) (number : ℕ) (l rest : List ℕ) → first_line text number ≡ Ok (l, rest) → Stands text l rest
told text number l rest h =
    record {
      low = grind (arith, nat_tests);
      high = grind (arith, nat_tests);
      even = grind (arith, nat_tests);
      feed = grind (arith, nat_tests);
      front = grind (arith, nat_tests);
      back = grind (arith, nat_tests);
    }

pub line_found : (text : List ℕ) (number : ℕ) (l rest : List ℕ) → first_line text number ≡ Ok (l, rest) → BeginsWith text l rest
line_found text number l rest h =
    let s = told text number l rest h in
    let k : ℕ = run text in
    let within = fed text k s.feed in
    let long : length l ≡ k = ap length s.front ∙ length-take-le k text (omega arith) in
    let tail : drop k text ≡ line_feed ∷ rest = drop_more text k 0 within ∙ ap (λ b. b ∷ drop (k + 1) text) s.feed ∙ ap (λ i. line_feed ∷ drop i text) (add-one k) ∙ ap (λ t. line_feed ∷ t) (sym s.back) in (
      record {
        digits = subst Digits (sym s.front) (counted_digits text k refl);
        low = omega (arith, s.low);
        high = omega (arith, s.high);
        even = ap (λ n. n % 2) long ∙ s.even;
      },
      sym (take-append-drop k text) ∙ ap (λ t. t ++ drop k text) (sym s.front) ∙ ap (λ t. l ++ t) tail,
    )

pub drop_past : (l : List ℕ) (b : ℕ) (rest : List ℕ) → drop (suc (length l)) (l ++ b ∷ rest) ≡ rest
drop_past [] b rest = refl
drop_past (d ∷ ds) b rest = drop_past ds b rest

-- where a line stands, it is found
pub line_there : (text : List ℕ) (number : ℕ) (l rest : List ℕ) → BeginsWith text l rest → first_line text number ≡ Ok (l, rest)
line_there text number l rest (is, e) =
    let long : run text ≡ length l = ap run e ∙ run_line l rest is.digits in
    let feed : get_or text (run text) 0 ≡ line_feed = ap (λ t. get_or t (run text) 0) e ∙ get_or_at l line_feed rest 0 (run text) (sym long) in
    let front : take (run text) text ≡ l = ap (take (run text)) e ∙ take_at l (line_feed ∷ rest) (run text) (sym long) in
    let back : drop (suc (run text)) text ≡ rest = ap (λ t. drop (suc (run text)) t) e ∙ ap (λ n. drop (suc n) (l ++ line_feed ∷ rest)) long ∙ drop_past l line_feed rest in
    let low : 2 ≤ run text = omega (arith, is.low) in
    let high : run text ≤ 64 = omega (arith, is.high) in
    let even : run text % 2 ≡ 0 = ap (λ n. n % 2) long ∙ is.even in
    let whole : ◌≡◌ {A = Result (List ℕ × List ℕ) LineFault} (Ok (take (run text) text, drop (suc (run text)) text)) (Ok (l, rest)) = cc in
    grind (arith, nat_tests)

pub line_missing : (text : List ℕ) (number : ℕ) (why : LineFault) → first_line text number ≡ Err why → (why ≡ Malformed number) × NoLine text
line_missing text number why h = (grind (arith, nat_tests), λ l rest b. let z : ◌≡◌ {A = ℕ} 0 1 = cc (line_there text number l rest b) in omega arith)
