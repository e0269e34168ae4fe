-- The input may come in any pieces: each is fed with what was left before it, and the last state and sketches are those of the whole input fed at once.
use mathlib.Core.Path.{◌≡◌, refl, sym, ap, ◌∙◌}
use mathlib.Core.Bool.{true}
use mathlib.Core.List.{List, [], ◌∷◌, ◌++◌, append-nil, append_assoc}
use Prim.Native.Nat.{ℕ, ◌+◌, ◌-◌, ◌≤◌}
use native.Mathlib.Omega.{arith}
use lib.ListN.{length, drop, length-append}
use lib.Seq.{drop-append-le, drop-drop}
use Rattle.params.specs.declared.params.Params.{Params}
use Rattle.sketch.specs.Sketch.{Sketch}
use Rattle.desk.specs.declared.states.State.{State}
use Rattle.desk.specs.declared.states.Fed.{Fed}
use Rattle.desk.specs.Desk.{offsets_fit, Feeds}
use Rattle.desk.proofs.OffsetsFit.{bounded, offsets_fit_lem}
use Rattle.desk.proofs.Pieces.{used_within, pieces}

-- pieces one after another
abbrev pub joined : List (List ℕ) → List ℕ
joined [] = []
joined (x ∷ xs) = x ++ joined xs

-- pieces that come behind the bytes that are held: from s and two sketches to t and what is then in them
pub data InTurn (P : Params) : List ℕ → List (List ℕ) → State → Sketch → Sketch → State → Sketch → Sketch → Type 0 where
  all_fed : {held : List ℕ} {s : State} {up down : Sketch} → InTurn P held [] s up down s up down
  next_fed : {held x : List ℕ} {xs : List (List ℕ)} {s t : State} {r : Fed} {up down up₁ down₁ up' down' : Sketch} → Feeds P (held ++ x) up down s r up₁ down₁
      → InTurn P (drop r.used (held ++ x)) xs r.state up₁ down₁ t up' down' → InTurn P held (x ∷ xs) s up down t up' down'

fewer_near : (xs ys : List ℕ) (s : State) → offsets_fit (xs ++ ys) s ≡ true → offsets_fit xs s ≡ true
fewer_near xs ys s near = let h = bounded (xs ++ ys) s near in offsets_fit_lem xs s (omega (arith, h, length-append xs ys))

-- what is left of both pieces together
left_of_both : (xs ys : List ℕ) (i j : ℕ) → i ≤ length xs → drop j (drop i xs ++ ys) ≡ drop (i + j) (xs ++ ys)
left_of_both xs ys i j h = ap (drop j) (sym (drop-append-le i xs ys h)) ∙ drop-drop j i (xs ++ ys)

module _ {P : Params} {s : State} {up down : Sketch} where
  -- the bytes ws were fed, `held` is what they left, and the pieces xs are to come
  in_turn_lem : {ws held : List ℕ} {xs : List (List ℕ)} {r : Fed} {u t : State} {up₁ down₁ up' down' : Sketch} → offsets_fit (ws ++ joined xs) s ≡ true → held ≡ drop r.used ws → u ≡ r.state
      → Feeds P ws up down s r up₁ down₁ → InTurn P held xs u up₁ down₁ t up' down' → Feeds P (ws ++ joined xs) up down s record { state = t; used = t.at - s.at } up' down'
  in_turn_lem {ws} {up₁ = up₁} {down₁ = down₁} near left now fed (all_fed {s = u}) =
      rw (append-nil ws) (record { state = now ∙ fed.state; used = refl; upstream = fed.upstream; downstream = fed.downstream })
  in_turn_lem {ws} {r = r} {up₁ = up₁} {down₁ = down₁} near left now fed (next_fed {x = x} {xs = xs} {r = r₂} {up₁ = up₂} {down₁ = down₂} one more) =
      let all : offsets_fit ((ws ++ x) ++ joined xs) s ≡ true = rw (append_assoc ws x (joined xs)) near in
      let near-both : offsets_fit (ws ++ x) s ≡ true = fewer_near (ws ++ x) (joined xs) s all in
      let next : Feeds P (drop r.used ws ++ x) up₁ down₁ r.state r₂ up₂ down₂ = rw (← left, ← now) one in
      let after = ap (λ bs. drop r₂.used (bs ++ x)) left ∙ left_of_both ws x r.used r₂.used (used_within (fewer_near ws x s near-both) fed) in
      rw (← append_assoc ws x (joined xs)) (in_turn_lem {ws = ws ++ x} all after refl (pieces x near-both fed next) more)

  -- a first piece, and the others behind what it leaves
  pub any_pieces : (x : List ℕ) (xs : List (List ℕ)) {r : Fed} {t : State} {up₁ down₁ up' down' : Sketch} → offsets_fit (x ++ joined xs) s ≡ true → Feeds P x up down s r up₁ down₁
      → InTurn P (drop r.used x) xs r.state up₁ down₁ t up' down' → Feeds P (x ++ joined xs) up down s record { state = t; used = t.at - s.at } up' down'
  any_pieces x xs near fed more = in_turn_lem near refl refl fed more
