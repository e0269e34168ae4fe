-- The sketch that a history of calls leaves is the sketch of its entries.
use mathlib.Core.Path.{◌≡◌, refl, sym, ap, ap₂, ◌∙◌, fun_ext}
use mathlib.Core.Bool.{Bool, true, false, cond}
use mathlib.Core.List.{List, [], ◌∷◌, ◌++◌, append-nil, append_assoc}
use Prim.Native.Nat.{ℕ, ◌*◌}
use lib.IntN.{ℤ, pos, ◌+ℤ◌, ◌-ℤ◌, ◌*ℤ◌, +ℤ_idr}
use Rattle.field.specs.Residue.{residue}
use Rattle.field.proofs.Residues.{residue_zero}
use Rattle.params.specs.declared.params.Params.{Params}
use Rattle.params.specs.Lists.{from}
use Rattle.params.specs.Answers.{kept, Done}
use Rattle.params.specs.Params.{prime, size, good_params, same_params}
use Rattle.params.specs.Sketched.{sketched}
use Rattle.params.specs.Positions.{stands}
use Rattle.buckets.specs.Buckets.{plus_minus, weight}
use Rattle.sketch.specs.Sketch.{Sketch, sketch, Entry, by, count_at, weight_at, sketch_of, zeros, changed_in}
use Rattle.sketch.specs.Packets.{changed, after, entries_of}
use Rattle.fold.specs.Fold.{front, Folded, folded_to}
use Rattle.fold.proofs.AtTheCall.{fold_of_list}
use Rattle.sums.specs.Sums.{combine_answer, combined, Combined}
use Rattle.sums.specs.History.{History, freshly, inserting, stepping, of_flow_zero, inserting_all, withdrawing, adding, subtracting, folding, negated, signed, net_count}
use Rattle.params.proofs.Judging.{first_done}
use Rattle.sums.proofs.TwoSketches.{both_lent_done}
use Rattle.sketch.proofs.Tables.{replicate_from, touched_from}
use Rattle.buckets.proofs.Idsums.{idsum_plus_minus_both}
use Rattle.params.proofs.SameParams.{size_same, sketched_same, stands_same}
use Rattle.sums.proofs.Weighted.{weighted, times_neg, count_weighted, weight_weighted, sketch_same}
use Rattle.sums.proofs.Linear.{count_append, weight_append, joined, joined_less}
use Rattle.sums.proofs.NetCounts.{net_decides, net_less}

-- zeros are the sketch of no entries
pub zeros_are : (P : Params) → zeros P ≡ sketch_of P []
unfolding zeros sketch_of count_at weight_at
zeros_are P =
    ap₂ sketch (replicate_from 0 (size P) (pos 0)) (replicate_from 0 (size P) 0 ∙ ap (λ (n : ℕ). from 0 (size P) (λ k. n)) (sym (residue_zero prime)))

-- a packet that goes in or comes out is one entry more
sum_signed : (minus : Bool) (x z : ℤ) → x +ℤ signed minus z ≡ plus_minus minus x z
sum_signed false x z = refl
sum_signed true x z = refl

times_signed : (minus : Bool) (n x : ℕ) → signed minus (pos n) *ℤ pos x ≡ signed minus (pos (n * x))
times_signed false n x = refl
times_signed true n x = times_neg (pos n) (pos x)

one_more : (b : Bool) (x z y : ℤ) → x +ℤ z ≡ y → cond b y x ≡ x +ℤ (cond b z (pos 0) +ℤ pos 0)
one_more true x z y e = sym (ap (◌+ℤ◌ x) (+ℤ_idr z) ∙ e)
one_more false x z y e = sym (+ℤ_idr x)

cond_residue : (b : Bool) (x y : ℤ) → cond b (residue prime x) (residue prime y) ≡ residue prime (cond b x y)
cond_residue true x y = refl
cond_residue false x y = refl

pub changed_entry : (P : Params) (minus : Bool) (f n : ℕ) (es : List Entry)
    → changed P minus f n (sketch_of P es) ≡ sketch_of P (es ++ (by f (signed minus (pos n)) ∷ []))
unfolding changed changed_in sketch_of count_at weight_at
changed_entry P minus f n es =
    ap₂ sketch
    (touched_from (size P) (stands P f) _ (count_at P es) ∙ ap (from 0 (size P)) (fun_ext count_more))
    (touched_from (size P) (stands P f) _ (λ k. residue prime (weight_at P es k)) ∙ ap (from 0 (size P)) (fun_ext idsum_more))
  where
    count_more : (k : ℕ) → cond (stands P f k) (plus_minus minus (count_at P es k) (pos n)) (count_at P es k) ≡ count_at P (es ++ (by f (signed minus (pos n)) ∷ [])) k
    count_more k =
        one_more (stands P f k) (count_at P es k) (signed minus (pos n)) _ (sum_signed minus (count_at P es k) (pos n))
        ∙ sym (count_append P es (by f (signed minus (pos n)) ∷ []) k)

    idsum_more : (k : ℕ) → cond (stands P f k) (residue prime (plus_minus minus (pos (residue prime (weight_at P es k))) (pos (weight (sketched P f) n)))) (residue prime (weight_at P es k))
        ≡ residue prime (weight_at P (es ++ (by f (signed minus (pos n)) ∷ [])) k)
    idsum_more k =
        ap (λ (r : ℕ). cond (stands P f k) r (residue prime (weight_at P es k))) (idsum_plus_minus_both minus (weight_at P es k) (pos (n * sketched P f)))
        ∙ cond_residue (stands P f k) _ _
        ∙ ap (residue prime)
        (one_more (stands P f k) (weight_at P es k) (signed minus (pos n) *ℤ pos (sketched P f)) _
        (ap (◌+ℤ◌ (weight_at P es k)) (times_signed minus n (sketched P f)) ∙ sum_signed minus (weight_at P es k) (pos (n * sketched P f)))
        ∙ sym (weight_append P es (by f (signed minus (pos n)) ∷ []) k))

-- and packets are as many entries
pub after_entries : (P : Params) (fs ns : List ℕ) (es : List Entry) → after P fs ns (sketch_of P es) ≡ sketch_of P (es ++ entries_of fs ns)
unfolding after entries_of
after_entries P [] ns es = ap (sketch_of P) (sym (append-nil es))
after_entries P (f ∷ fs) [] es = ap (sketch_of P) (sym (append-nil es))
after_entries P (f ∷ fs) (n ∷ ns) es =
    ap (after P fs ns) (changed_entry P false f n es)
    ∙ after_entries P fs ns (es ++ (by f (pos n) ∷ []))
    ∙ ap (sketch_of P) (append_assoc es (by f (pos n) ∷ []) (entries_of fs ns))

-- the same parameters make the same sketch of the same entries
pub sketch_shared : (P Q : Params) (es : List Entry) → good_params P ≡ true → same_params P Q ≡ true → sketch_of P es ≡ sketch_of Q es
sketch_shared P Q es g e =
    let t = stands_same P Q e g in
    let x = sketched_same P Q e in
    sketch_same P Q es es (size_same P Q e)
    (λ k. count_weighted P es k ∙ ap (λ (u : ℕ → ℕ → Bool). weighted (λ f. cond (u f k) (pos 1) (pos 0)) es) t ∙ sym (count_weighted Q es k))
    (λ k. weight_weighted P es k ∙ ap₂ (λ (u : ℕ → ℕ → Bool) (v : ℕ → ℕ). weighted (λ f. cond (u f k) (pos (v f)) (pos 0)) es) t x ∙ sym (weight_weighted Q es k))

-- a sum or a difference that was not refused, by the parameters of the first sketch
combined_shared : (minus : Bool) (es gs : List Entry) {P Q : Params} {S T S' : Sketch} → S ≡ sketch_of P es → T ≡ sketch_of Q gs → Combined minus P Q S T Done S'
    → S' ≡ combined minus (sketch_of P es) (sketch_of P gs)
unfolding combine_answer kept
combined_shared minus es gs {P} {Q} {S} {T} s t c =
    let h = both_lent_done P Q _ _ _ _ (first_done _ _ (sym c.answer)).0 in
    c.after ∙ ap₂ (combined minus) s (t ∙ sym (sketch_shared P Q gs h.good h.same))

-- whatever calls made it
pub history : {P : Params} {es : List Entry} {S : Sketch} → History P es S → S ≡ sketch_of P es
unfolding kept
history (freshly h) = h.after ∙ zeros_are _
history (inserting h i) = i.after ∙ ap (changed _ false _ _) (history h) ∙ changed_entry _ false _ _ _
history (stepping h i) = i.after ∙ ap (changed _ _ _ _) (history h) ∙ changed_entry _ _ _ _ _
history (of_flow_zero minus n h e) = e ∙ ap (changed _ _ _ _) (history h) ∙ changed_entry _ _ _ _ _
history (inserting_all h i) = i.after_all ∙ ap (after _ _ _) (history h) ∙ after_entries _ _ _ _
history (withdrawing h i) = i.after ∙ ap (changed _ true _ _) (history h) ∙ changed_entry _ true _ _ _
history (adding h g i) = combined_shared false _ _ (history h) (history g) i ∙ sym (joined _ _ _)
history (subtracting h g i) = combined_shared true _ _ (history h) (history g) i ∙ sym (joined_less _ _ _)
history (folding h i) = fold_of_list i _ (history h)

-- a desk may fold the larger of two sketches to subtract a smaller one from it, or it from the smaller one: the difference is that of the packets
pub fold_and_subtract : {P Q R : Params} {m2 : ℕ} {es gs : List Entry} {S S' T D : Sketch} → History P es S → Folded P m2 S (folded_to Q) S' → History R gs T
    → Combined true Q R (front (size Q) S') T Done D → D ≡ sketch_of Q (es ++ negated gs)
fold_and_subtract h f g c = history (subtracting (folding h f) g c)

pub subtract_folded : {P Q R : Params} {m2 : ℕ} {es gs : List Entry} {S T T' D : Sketch} → History R es S → History P gs T → Folded P m2 T (folded_to Q) T'
    → Combined true R Q S (front (size Q) T') Done D → D ≡ sketch_of R (es ++ negated gs)
subtract_folded h g f c = history (subtracting h (folding g f) c)

-- how packets are split over calls and sketches does not matter, nor does their order
pub split_free : {P : Params} {es gs : List Entry} {S T : Sketch} → History P es S → History P gs T → ((f : ℕ) → net_count es f ≡ net_count gs f) → S ≡ T
split_free h g e = history h ∙ net_decides _ _ _ e ∙ sym (history g)

-- the difference of two sketches is the sketch of the entries of the first and the opposite ones of the second
pub difference_of : {P : Params} {es gs : List Entry} {S T : Sketch} → History P es S → History P gs T → combined true S T ≡ sketch_of P (es ++ negated gs)
difference_of {P} {es} {gs} h g = ap₂ (combined true) (history h) (history g) ∙ sym (joined_less P es gs)

-- and of every list with the differences of the net counts
pub difference_list : {P : Params} {es gs : List Entry} {S T : Sketch} → History P es S → History P gs T → (ls : List Entry) → ((f : ℕ) → net_count es f -ℤ net_count gs f ≡ net_count ls f)
    → combined true S T ≡ sketch_of P ls
difference_list {P} {es} {gs} h g ls e = difference_of h g ∙ net_decides P (es ++ negated gs) ls (λ f. net_less es gs f ∙ e f)

-- so it goes by these
pub combined_by_nets : {P : Params} {es gs es' gs' : List Entry} {S T S' T' : Sketch} → History P es S → History P gs T → History P es' S' → History P gs' T'
    → ((f : ℕ) → net_count es f -ℤ net_count gs f ≡ net_count es' f -ℤ net_count gs' f) → combined true S T ≡ combined true S' T'
combined_by_nets {es' = es'} {gs' = gs'} h g h' g' e = difference_list h g (es' ++ negated gs') (λ f. e f ∙ sym (net_less es' gs' f)) ∙ sym (difference_of h' g')

-- the parameters of a sum or a difference that was not refused
called_good : {minus : Bool} {P Q : Params} {S T S' : Sketch} → Combined minus P Q S T Done S' → good_params P ≡ true
unfolding combine_answer
called_good {minus} {P} {Q} c = (both_lent_done P Q _ _ _ _ (first_done _ _ (sym c.answer)).0).good

-- and what `subtract` leaves, in two calls that were not refused, over any histories; each call is given its own parameters, and these are the same
pub difference_by_nets : {P Q P' Q' : Params} {es gs es' gs' : List Entry} {S T D S' T' D' : Sketch}
    → History P es S → History Q gs T → Combined true P Q S T Done D → History P' es' S' → History Q' gs' T' → Combined true P' Q' S' T' Done D'
    → same_params P P' ≡ true → ((f : ℕ) → net_count es f -ℤ net_count gs f ≡ net_count es' f -ℤ net_count gs' f) → D ≡ D'
difference_by_nets {P} {Q} {P'} {Q'} {es} {gs} {es'} {gs'} h g c h' g' c' same e =
    history (subtracting h g c)
    ∙ net_decides P (es ++ negated gs) (es' ++ negated gs') (λ f. net_less es gs f ∙ e f ∙ sym (net_less es' gs' f))
    ∙ sketch_shared P P' (es' ++ negated gs') (called_good c) same
    ∙ sym (history (subtracting h' g' c'))
