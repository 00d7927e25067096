-- What is written to an output piece by piece is written to it whole: each piece goes to the front of what is left of the
-- output, and follows the pieces before it. The digits of bytes join in the same way, and a line feed makes a line of them.
-- Assumes nothing.
use Rattle.std.proofs.Common.{◌≡◌, ℕ, suc, ◌+◌, ◌-◌, ◌*◌, ◌/◌, ◌%◌, ◌<◌, ◌≤◌, List, [], ◌∷◌, ◌++◌, length, get_or, take, drop, sym, refl, ap, ◌∙◌, subst, add-one, arith, length-append, length-drop, length-take, take_all}
use Rattle.std.proofs.lemmas.List.{append_assoc, append-nil, drop_all, drop-drop, length-take-le, take_more}
use Rattle.std.proofs.Math.Seq.{take-append-add, drop-append-add}
use borrow.Rule.Slice.PartMut.{put_mid}
use Rattle.control.specs.Setup.{Setup}
use Rattle.theory.specs.declared.moves.Move.{Move}
use Rattle.frames.specs.Lines.{line_feed}
use Rattle.frames.specs.Replies.{hex, written}
use Rattle.replies.specs.Lines.{Appends, Begins, Reply, bytes_of, digits, string_if, strings_to, text_of}

-- what was written fits
pub fits : {a b : List ℕ} {n : ℕ} {xs : List ℕ} → Begins a b n xs → n ≤ length b
fits {b = b} {n = n} p = omega (arith, length-take n b, p.count, ap length p.front)

-- the rest of the output, as long as it is
module _ (b : List ℕ) (n : ℕ) where
  abbrev rest : List ℕ
  rest = take (length b - n) (drop n b)

  rest_all : rest ≡ drop n b
  rest_all = take_all (length b - n) (drop n b) (omega (arith, length-drop n b))

  pub room : {a xs : List ℕ} → Begins a b n xs → (k : ℕ) → n + k ≤ length a → k ≤ length rest
  room p k enough = omega (arith, ap length rest_all, length-drop n b, p.same_length)

  -- what is written to it follows the bytes so far
  pub onward : {a c : List ℕ} {m : ℕ} {xs ys : List ℕ} → Begins a b n xs → Begins rest c m ys → Begins a (put_mid n (length b - n) b c) (n + m) (xs ++ ys)
  onward {a} {c} {m} {xs} {ys} p q =
      let none : drop (length b - n) (drop n b) ≡ [] = drop_all (length b - n) (drop n b) (omega (arith, length-drop n b)) in
      let now : put_mid n (length b - n) b c ≡ xs ++ c = ap (λ l. take n b ++ (c ++ l)) none ∙ ap (λ l. take n b ++ l) (append-nil c) ∙ ap (λ l. l ++ c) p.front in
      subst (λ o. Begins a o (n + m) (xs ++ ys)) (sym now) record {
        count = omega (arith, p.count, q.count, length-append xs ys);
        front = ap (λ i. take (i + m) (xs ++ c)) p.count ∙ take-append-add xs c m ∙ ap (λ l. xs ++ l) q.front;
        past = ap (λ i. drop (i + m) (xs ++ c)) p.count ∙ drop-append-add xs c m ∙ q.past ∙ ap (drop m) (rest_all ∙ p.past) ∙ drop-drop m n a;
        same_length = omega (arith, length-append xs c, p.count, q.same_length, ap length rest_all, length-drop n b, fits p, p.same_length);
      }

-- what is written to the front of the rest of an output is written to the output from there on
pub placed : {a c : List ℕ} {i m : ℕ} {xs : List ℕ} → i ≤ length a → Begins (rest a i) c m xs → Appends a (put_mid i (length a - i) a c) i (i + m) xs
placed {a} {c} {i} {m} {xs} low p =
    let before : Begins a a i (take i a) = record { count = sym (length-take-le i a low); front = refl; past = refl; same_length = refl } in
    let whole = onward a i before p in
    record { count = omega (arith, p.count); front = whole.front; past = whole.past; same_length = whole.same_length }

pub nothing : (out : List ℕ) → Begins out out 0 []
nothing out = record { count = refl; front = refl; past = refl; same_length = refl }

pub digits_append : (xs ys : List ℕ) → digits (xs ++ ys) ≡ digits xs ++ digits ys
digits_append [] ys = refl
digits_append (b ∷ xs) ys = ap (λ l. hex (b / 16) ∷ hex (b % 16) ∷ l) (digits_append xs ys)

pub digits_line : (bs : List ℕ) → digits bs ++ line_feed ∷ [] ≡ written bs
digits_line [] = refl
digits_line (b ∷ bs) = ap (λ l. hex (b / 16) ∷ hex (b % 16) ∷ l) (digits_line bs)

pub length_digits : (bs : List ℕ) → length (digits bs) ≡ 2 * length bs
length_digits [] = refl
length_digits (b ∷ bs) = omega (arith, length_digits bs)

pub text_append : (rs ss : List Reply) → text_of (rs ++ ss) ≡ text_of rs ++ text_of ss
text_append [] ss = refl
text_append (r ∷ rs) ss = ap (λ l. written (bytes_of r) ++ l) (text_append rs ss) ∙ sym (append_assoc (written (bytes_of r)) (text_of rs) (text_of ss))

-- the same, with the bytes told in another way
pub retold : {a b : List ℕ} {n : ℕ} {xs ys : List ℕ} → xs ≡ ys → Begins a b n xs → Begins a b n ys
retold {a} {b} {n} same p = subst (Begins a b n) same p

-- the same output and count, under other names
pub renamed : {a b b' : List ℕ} {n n' : ℕ} {xs : List ℕ} → b' ≡ b → n' ≡ n → Begins a b n xs → Begins a b' n' xs
renamed {a} {b} {b'} {n} {n'} {xs} out count p =
    subst (λ o. Begins a o n' xs) (sym out) (subst (λ k. Begins a b k xs) (sym count) p)

-- one byte more of a list of bytes
pub digits_more : (bs : List ℕ) (i : ℕ) → i < length bs → digits (take i bs) ++ digits (get_or bs i 0 ∷ []) ≡ digits (take (i + 1) bs)
digits_more bs i low = sym (digits_append (take i bs) (get_or bs i 0 ∷ [])) ∙ ap digits (sym (take_more bs i 0 low))

-- one site more
pub strings_more : (p : Setup) (e : ℕ) (run : List Move) (i k : ℕ) → i ≡ k + 1 → text_of (strings_to p e run k) ++ text_of (string_if p e run i) ≡ text_of (strings_to p e run i)
strings_more p e run i k is =
    let next : i ≡ suc k = is ∙ add-one k in
    ap (λ n. text_of (strings_to p e run k) ++ text_of (string_if p e run n)) next
    ∙ sym (text_append (strings_to p e run k) (string_if p e run (suc k)))
    ∙ ap (λ n. text_of (strings_to p e run n)) (sym next)
