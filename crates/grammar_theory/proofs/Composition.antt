-- Each way to put languages together keeps reading right.
use Rattle.std.proofs.Common.{◌≡◌, ℕ, zero, suc, ◌<◌, ◌≤◌, ◌||◌, Bool, true, false, cond, List, [], ◌∷◌, ◌++◌, length, Option, Some, None, Result, Ok, Err, refl, sym, ap, subst, ◌∙◌, append_assoc, append-nil, length-append, inl, inr, arith}
use Rattle.std.specs.Prelude.{◌⊎◌, nat_le, not, ◌&&◌, ◌==◌}
use Rattle.std.proofs.lemmas.Bool.{eqb-true}
use Rattle.std.proofs.lemmas.Bool.Decides.{nat_tests}
use Rattle.grammar_theory.proofs.Readings.{Stops, Found, Look, Reach, Stuck, Deep, Again, Reader, Facts}
use Rattle.grammar_theory.specs.Choice.{are_apart}
use Rattle.grammar_theory.specs.Faults.{AllFit}
use Rattle.grammar_theory.specs.Reading.{Outcome, ◌>>=◌, starts_with, read_token, read_one, read_in_turn, read_one_of_two, read_optional, read_repeated}
use Rattle.grammar_theory.specs.Texts.{member, tokens_of, IsOneOf, InTurn, OneOfTwo, OneOrNone, Repeated}
use Rattle.grammar_theory.specs.declared.Cause.{Cause}
use Rattle.grammar_theory.specs.declared.Cause.TheVariants.{Unexpected, TooDeep}

pub tokens_of-append : {T : Type 0} (a b : List (T × ℕ)) → tokens_of (a ++ b) ≡ tokens_of a ++ tokens_of b
tokens_of-append [] b = refl
tokens_of-append (m ∷ a) b = ap (λ xs. m.0 ∷ xs) (tokens_of-append a b)

pub fit-append : {T : Type 0} (limit : ℕ) (a b : List (T × ℕ)) → AllFit limit a → AllFit limit b → AllFit limit (a ++ b)
fit-append limit [] b x y = y
fit-append limit (m ∷ a) b x y = (x.0, fit-append limit a b x.1 y)

pub ok_is : {A E : Type 0} {x y : A} → ◌≡◌ {A = Result A E} (Ok x) (Ok y) → x ≡ y
ok_is e = cc

pub err_is : {A E : Type 0} {x y : E} → ◌≡◌ {A = Result A E} (Err x) (Err y) → x ≡ y
err_is e = cc

pub bind_ok : {A B E : Type 0} (r : Result A E) (f : A → Result B E) (y : B) → (r >>= f) ≡ Ok y → (x : A) × (r ≡ Ok x) × (f x ≡ Ok y)
bind_ok (Ok x) f y e = (x, refl, e)
bind_ok (Err d) f y e = absurd cc

pub bind_err : {A B E : Type 0} (r : Result A E) (f : A → Result B E) (d : E) → (r >>= f) ≡ Err d → (r ≡ Err d) ⊎ ((x : A) × (r ≡ Ok x) × (f x ≡ Err d))
bind_err (Ok x) f d e = inr (x, refl, e)
bind_err (Err b) f d e = inl cc

-- a text that fits is read
pub fits_at : {T : Type 0} (limit : ℕ) (a b : List (T × ℕ)) (m : T × ℕ) → AllFit limit (a ++ m ∷ b) → m.1 ≤ limit
fits_at limit [] b m f = f.0
fits_at limit (x ∷ a) b m f = fits_at limit a b m f.1

too_deep : {T : Type 0} (limit : ℕ) (ms : List (T × ℕ)) (rest at : List T) → AllFit limit ms → Deep limit ms rest at → ⊥
too_deep {T} limit ms rest at f d =
    let g = fits_at limit d.before d.after (d.token, d.level) (subst (AllFit limit) d.marks f) in
    let h = d.deep in omega arith

pub again_ok : {T V : Type 0} (limit : ℕ) (ms : List (T × ℕ)) (v : V) (rest : List T) (o : Outcome T V) → AllFit limit ms → Again limit ms v rest o → o ≡ Ok (v, rest)
again_ok limit ms v rest (Ok x) fits a = ap Ok a.0
again_ok limit ms v rest (Err e) fits a = absurd (too_deep limit ms rest e.1 fits a.1)

-- ** one token

pub ok_one : {T : Type 0} (b d : Bool) (t v : T) (ts rest : List T) → read_token b d t ts ≡ Ok (v, rest)
    → (b ≡ true) × (d ≡ true) × (t ≡ v) × (ts ≡ rest)
ok_one true true t v ts rest e = (refl, refl, ap (λ p. p.0) (ok_is e), ap (λ p. p.1) (ok_is e))
ok_one true false t v ts rest e = absurd cc
ok_one false d t v ts rest e = absurd cc

err_one : {T : Type 0} (b d : Bool) (t : T) (ts rest : List T) (cause : Cause) → read_token b d t ts ≡ Err (cause, rest)
    → (rest ≡ t ∷ ts) × (((b ≡ true) × (d ≡ false) × (cause ≡ TooDeep)) ⊎ ((b ≡ false) × (cause ≡ Unexpected)))
err_one true true t ts rest cause e = absurd cc
err_one true false t ts rest cause e = (sym (ap (λ p. p.1) (err_is e)), inl (refl, refl, sym (ap (λ p. p.0) (err_is e))))
err_one false d t ts rest cause e = (sym (ap (λ p. p.1) (err_is e)), inr (refl, sym (ap (λ p. p.0) (err_is e))))

one_sound : {T : Type 0} (kind : T → ℕ) (limit l : ℕ) (ks : List ℕ) (ts : List T) (v : T) (rest : List T) → read_one kind limit l ks ts ≡ Ok (v, rest) → Found limit (IsOneOf kind l ks) (read_one kind limit l ks) ts v rest
one_sound kind limit l ks [] v rest e = absurd cc
one_sound kind limit l ks (t ∷ ts) v rest e =
    let p = ok_one (member (kind t) ks) (nat_le l limit) t v ts rest e in
    record {
      marks = (v, l) ∷ [];
      cut = cc (p.2, p.3);
      text = (refl, subst (λ u. member (kind u) ks ≡ true) p.2 p.0);
      fits = (grind (arith, nat_tests, p.1), tt);
      keeps = λ s tail z _. rw (subst (λ u. member (kind u) ks ≡ true) p.2 p.0, p.1) refl;
    }

one_stuck : {T : Type 0} (kind : T → ℕ) (limit l : ℕ) (ks : List ℕ) (sample : T) → member (kind sample) ks ≡ true → (ts : List T) (cause : Cause) (rest : List T) → read_one kind limit l ks ts ≡ Err (cause, rest) → Stuck limit (IsOneOf kind l ks) (read_one kind limit l ks) ts cause rest
one_stuck kind limit l ks sample is [] cause rest e =
    let p : Unexpected ≡ cause = ap (λ q. q.0) (err_is e) in
    let q : [] ≡ rest = ap (λ q. q.1) (err_is e) in
    record {
      front = [];
      cut = q;
      stays = λ t tail z h. absurd cc;
      reach = record {
        before = [];
        after = (sample, l) ∷ [];
        value = sample;
        text = (refl, is);
        tokens = refl;
        fits = tt;
        look = subst (λ k. Look k rest ((sample, l) ∷ [])) p tt;
      };
    }
one_stuck kind limit l ks sample is (t ∷ ts) cause rest e =
    let p = err_one (member (kind t) ks) (nat_le l limit) t ts rest cause e in
    elim (p.1) [
      | inl q ↦ record {
        front = [];
        cut = sym p.0;
        stays = λ s tail z h. let st : t ≡ s = cc (h, p.0) in rw (← st, q.0, q.1, q.2) refl;
        reach = record {
          before = [];
          after = (t, l) ∷ [];
          value = t;
          text = (refl, q.0);
          tokens = refl;
          fits = tt;
          look = rw q.2 ((t, l), ts, [], p.0, refl);
        };
      }
      | inr q ↦ record {
        front = [];
        cut = sym p.0;
        stays = λ s tail z h. let st : t ≡ s = cc (h, p.0) in rw (← st, q.0, q.1) refl;
        reach = record {
          before = [];
          after = (sample, l) ∷ [];
          value = sample;
          text = (refl, is);
          tokens = refl;
          fits = tt;
          look = rw q.1 tt;
        };
      }
    ]

one_again_at : {T : Type 0} (limit l : ℕ) (v : T) (rest : List T) (d : Bool) → nat_le l limit ≡ d → Again limit ((v, l) ∷ []) v rest (read_token true d v rest)
one_again_at limit l v rest true e = (refl, (grind (arith, nat_tests), tt))
one_again_at limit l v rest false e = (refl, record { before = []; token = v; level = l; after = []; marks = refl; fits = tt; deep = grind (arith, nat_tests); here = refl })

one_again : {T : Type 0} (kind : T → ℕ) (limit l : ℕ) (ks : List ℕ) (ms : List (T × ℕ)) (v : T) (rest : List T) → IsOneOf kind l ks ms v → Again limit ms v rest (read_one kind limit l ks (tokens_of ms ++ rest))
one_again kind limit l ks ms v rest r = rw (r.0, r.1) (one_again_at limit l v rest (nat_le l limit) refl)

pub one_reader : {T : Type 0} (kind : T → ℕ) (limit l : ℕ) (ks : List ℕ) (sample : T) → member (kind sample) ks ≡ true → Reader kind limit (IsOneOf kind l ks) [] (read_one kind limit l ks)
one_reader kind limit l ks sample is = record {
  sound = one_sound kind limit l ks;
  stuck = one_stuck kind limit l ks sample is;
  again = λ ms v rest r s. one_again kind limit l ks ms v rest r;
}

-- ** kinds

or_assoc : (a b c : Bool) → (a || (b || c)) ≡ ((a || b) || c)
or_assoc true b c = refl
or_assoc false b c = refl

neither : (a b : Bool) → (a || b) ≡ false → (a ≡ false) × (b ≡ false)
neither true b e = absurd cc
neither false b e = (refl, e)

pub both : (a b : Bool) → (a && b) ≡ true → (a ≡ true) × (b ≡ true)
both true b e = (refl, e)
both false b e = absurd cc

pub either : (a b : Bool) → (a || b) ≡ true → (a ≡ true) ⊎ (b ≡ true)
either true b e = inl refl
either false b e = inr e

pub not_true : (a : Bool) → not a ≡ true → a ≡ false
not_true true e = absurd cc
not_true false e = refl

pub member-append : (k : ℕ) (xs ys : List ℕ) → member k (xs ++ ys) ≡ (member k xs || member k ys)
member-append k [] ys = refl
member-append k (x ∷ xs) ys = ap (λ b. (k == x) || b) (member-append k xs ys) ∙ or_assoc (k == x) (member k xs) (member k ys)

pub not_in_both : (k : ℕ) (xs ys : List ℕ) → member k (xs ++ ys) ≡ false → (member k xs ≡ false) × (member k ys ≡ false)
not_in_both k xs ys e = neither (member k xs) (member k ys) (sym (member-append k xs ys) ∙ e)

pub apart_at : (k : ℕ) (xs ys : List ℕ) → are_apart xs ys ≡ true → member k xs ≡ true → member k ys ≡ false
apart_at k [] ys e h = absurd cc
apart_at k (x ∷ xs) ys e h =
    let p = both (not (member x ys)) (are_apart xs ys) e in
    elim (either (k == x) (member k xs) h) [
      | inl s ↦ rw (eqb-true k x s) (not_true (member x ys) p.0)
      | inr s ↦ apart_at k xs ys p.1 s
    ]

pub stops_both : {T : Type 0} (kind : T → ℕ) (xs ys : List ℕ) (rest : List T) → Stops kind (xs ++ ys) rest → Stops kind xs rest × Stops kind ys rest
stops_both kind xs ys [] s = (tt, tt)
stops_both kind xs ys (t ∷ rest) s = not_in_both (kind t) xs ys s

pub starts_stops : {T : Type 0} (kind : T → ℕ) (f : List ℕ) (rest : List T) → Stops kind f rest → starts_with kind f rest ≡ false
starts_stops kind f [] s = refl
starts_stops kind f (t ∷ rest) s = s

-- what is read hangs on the first token alone
pub starts_same : {T : Type 0} (kind : T → ℕ) (f : List ℕ) (front ts rest : List T) (t : T) (tail z : List T) → ts ≡ front ++ rest → rest ≡ t ∷ tail → starts_with kind f (front ++ t ∷ z) ≡ starts_with kind f ts
starts_same kind f [] ts rest t tail z e h = rw (e, h) refl
starts_same kind f (x ∷ front) ts rest t tail z e h = rw e refl

-- ** one after the other

-- a value is read again before what begins in the same way
pub keep_at : {T V : Type 0} (limit : ℕ) (R : List (T × ℕ) → V → Type 0) (read : List T → Outcome T V) (ts : List T) (v : V) (rest : List T) → (found : Found limit R read ts v rest)
    → (front : List T) (t : T) (tail z : List T) → rest ≡ front ++ t ∷ tail → read (tokens_of found.marks ++ (front ++ t ∷ z)) ≡ Ok (v, front ++ t ∷ z)
keep_at limit R read ts v rest found [] t tail z e = found.keeps t tail z e
keep_at limit R read ts v rest found (x ∷ front) t tail z e = found.keeps x (front ++ t ∷ tail) (front ++ t ∷ z) e

look_more : {T : Type 0} (cause : Cause) (rest : List T) (after b : List (T × ℕ)) → Look cause rest after → Look cause rest (after ++ b)
look_more Unexpected rest after b h = tt
look_more TooDeep rest after b h = (h.0, h.1, h.2 ++ b, h.3, ap (λ xs. xs ++ b) h.4)

regroup : {T : Type 0} (a b : List (T × ℕ)) (z : List T) → tokens_of (a ++ b) ++ z ≡ tokens_of a ++ (tokens_of b ++ z)
regroup a b z = ap (λ xs. xs ++ z) (tokens_of-append a b) ∙ append_assoc (tokens_of a) (tokens_of b) z

again_made : {T X Y : Type 0} (limit : ℕ) (f : X → Y) (ms : List (T × ℕ)) (x : X) (rest : List T) (o : Outcome T X) → Again limit ms x rest o → Again limit ms (f x) rest (o >>= λ p. Ok (f p.0, p.1))
again_made limit f ms x rest (Ok p) h = (ap (λ q. (f q.0, q.1)) h.0, h.1)
again_made limit f ms x rest (Err e) h = h

deep_left : {T : Type 0} (limit : ℕ) (a b : List (T × ℕ)) (rest at : List T) → Deep limit a (tokens_of b ++ rest) at → Deep limit (a ++ b) rest at
deep_left limit a b rest at d = record {
  before = d.before;
  token = d.token;
  level = d.level;
  after = d.after ++ b;
  marks = ap (λ xs. xs ++ b) d.marks ∙ append_assoc d.before ((d.token, d.level) ∷ d.after) b;
  fits = d.fits;
  deep = d.deep;
  here = d.here ∙ ap (λ xs. d.token ∷ xs) (sym (regroup d.after b rest));
}

deep_right : {T : Type 0} (limit : ℕ) (a b : List (T × ℕ)) (rest at : List T) → AllFit limit a → Deep limit b rest at → Deep limit (a ++ b) rest at
deep_right limit a b rest at fits d = record {
  before = a ++ d.before;
  token = d.token;
  level = d.level;
  after = d.after;
  marks = ap (λ xs. a ++ xs) d.marks ∙ sym (append_assoc a d.before ((d.token, d.level) ∷ d.after));
  fits = fit-append limit a d.before fits d.fits;
  deep = d.deep;
  here = d.here;
}

seq_last : {T X Y Z : Type 0} (limit : ℕ) (g : X → Y → Z) (a b : List (T × ℕ)) (x : X) (y : Y) (rest : List T) (o : Outcome T Y) → AllFit limit a → Again limit b y rest o
    → Again limit (a ++ b) (g x y) rest (o >>= λ q. Ok (g x q.0, q.1))
seq_last limit g a b x y rest (Ok q) fits h = (ap (λ p. (g x p.0, p.1)) h.0, fit-append limit a b fits h.1)
seq_last limit g a b x y rest (Err e) fits h = (h.0, deep_right limit a b rest e.1 fits h.1)

seq_done : {T X Y Z : Type 0} (limit : ℕ) (g : X → Y → Z) (a b : List (T × ℕ)) (x : X) (y : Y) (rest : List T) (s : List T → Outcome T Y) (o : Outcome T X)
    → Again limit a x (tokens_of b ++ rest) o → Again limit b y rest (s (tokens_of b ++ rest)) → Again limit (a ++ b) (g x y) rest (o >>= λ p. s p.1 >>= λ q. Ok (g p.0 q.0, q.1))
seq_done limit g a b x y rest s (Ok p) h k = rw h.0 (seq_last limit g a b x y rest (s (tokens_of b ++ rest)) h.1 k)
seq_done limit g a b x y rest s (Err e) h k = (h.0, deep_left limit a b rest e.1 h.1)

module _ {T X Y : Type 0} (kind : T → ℕ) (limit : ℕ) (R : List (T × ℕ) → X → Type 0) (S : List (T × ℕ) → Y → Type 0) (n : Bool) (f c d : List ℕ) (r : List T → Outcome T X) (s : List T → Outcome T Y)
    (rr : Reader kind limit R c r) (ss : Reader kind limit S d s) (facts : Facts kind S n f) (choice : are_apart f c ≡ true) where
  seq_sound : (ts : List T) (v : X × Y) (rest : List T) → read_in_turn r s ts ≡ Ok (v, rest) → Found limit (InTurn R S) (read_in_turn r s) ts v rest
  seq_sound ts v rest e =
      let a = bind_ok (r ts) (λ x. s x.1 >>= λ y. Ok ((x.0, y.0), y.1)) (v, rest) e in
      let b = bind_ok (s a.0.1) (λ y. Ok ((a.0.0, y.0), y.1)) (v, rest) a.2 in
      let x = rr.sound ts a.0.0 a.0.1 a.1 in
      let y = ss.sound a.0.1 b.0.0 b.0.1 b.1 in
      let made : (X × Y) × List T = ((a.0.0, b.0.0), b.0.1) in
      subst (λ (o : (X × Y) × List T). Found limit (InTurn R S) (read_in_turn r s) ts o.0 o.1) (ok_is {y = (v, rest)} b.2) (record {
        marks = x.marks ++ y.marks;
        cut = x.cut ∙ ap (λ zs. tokens_of x.marks ++ zs) y.cut ∙ sym (regroup x.marks y.marks made.1);
        text = (x.marks, y.marks, refl, x.text, y.text);
        fits = fit-append limit x.marks y.marks x.fits y.fits;
        keeps = λ t tail z h.
            let k = keep_at limit R r ts a.0.0 a.0.1 x (tokens_of y.marks) t tail z (y.cut ∙ ap (λ zs. tokens_of y.marks ++ zs) h) in
            let j = y.keeps t tail z h in
            ap (read_in_turn r s) (regroup x.marks y.marks (t ∷ z)) ∙ rw (k, j) refl;
      })

  seq_stuck : (ts : List T) (cause : Cause) (rest : List T) → read_in_turn r s ts ≡ Err (cause, rest) → Stuck limit (InTurn R S) (read_in_turn r s) ts cause rest
  seq_stuck ts cause rest e =
      elim (bind_err (r ts) (λ x. s x.1 >>= λ y. Ok ((x.0, y.0), y.1)) (cause, rest) e) [
        | inl h ↦
            let x = rr.stuck ts cause rest h in
            let y = facts.some in
            record {
              front = x.front;
              cut = x.cut;
              stays = λ t tail z g. rw (x.stays t tail z g) refl;
              reach = record {
                before = x.reach.before;
                after = x.reach.after ++ y.0;
                value = (x.reach.value, y.1);
                text = (x.reach.before ++ x.reach.after, y.0, sym (append_assoc x.reach.before x.reach.after y.0), x.reach.text, y.2);
                tokens = x.reach.tokens;
                fits = x.reach.fits;
                look = look_more cause rest x.reach.after y.0 x.reach.look;
              };
            }
        | inr h ↦
            let x = rr.sound ts h.0.0 h.0.1 h.1 in
            elim (bind_err (s h.0.1) (λ y. Ok ((h.0.0, y.0), y.1)) (cause, rest) h.2) [
              | inl g ↦
                  let y = ss.stuck h.0.1 cause rest g in
                  record {
                    front = tokens_of x.marks ++ y.front;
                    cut = x.cut ∙ ap (λ zs. tokens_of x.marks ++ zs) y.cut ∙ sym (append_assoc (tokens_of x.marks) y.front rest);
                    stays = λ t tail z u.
                        let k = keep_at limit R r ts h.0.0 h.0.1 x y.front t tail z (y.cut ∙ ap (λ zs. y.front ++ zs) u) in
                        let j = y.stays t tail z u in
                        ap (read_in_turn r s) (append_assoc (tokens_of x.marks) y.front (t ∷ z)) ∙ rw (k, j) refl;
                    reach = record {
                      before = x.marks ++ y.reach.before;
                      after = y.reach.after;
                      value = (h.0.0, y.reach.value);
                      text = (x.marks, y.reach.before ++ y.reach.after, append_assoc x.marks y.reach.before y.reach.after, x.text, y.reach.text);
                      tokens = tokens_of-append x.marks y.reach.before ∙ ap (λ zs. tokens_of x.marks ++ zs) y.reach.tokens;
                      fits = fit-append limit x.marks y.reach.before x.fits y.reach.fits;
                      look = y.reach.look;
                    };
                  }
              | inr g ↦ absurd (let q = g.2 in cc)
            ]
      ]

  -- what follows the first part stops it
  seq_stops : (b : List (T × ℕ)) (y : Y) (rest : List T) → S b y → Stops kind (d ++ cond n c []) rest → Stops kind c (tokens_of b ++ rest)
  seq_stops [] y rest sb st =
      let e = facts.none y sb in
      let p = (stops_both kind d (cond n c []) rest st).1 in
      subst (λ m. Stops kind (cond m c []) rest) e p
  seq_stops (m ∷ b) y rest sb st = apart_at (kind m.0) f c choice (facts.first_kinds m b y sb)

  seq_again : (ms : List (T × ℕ)) (v : X × Y) (rest : List T) → InTurn R S ms v → Stops kind (d ++ cond n c []) rest → Again limit ms v rest (read_in_turn r s (tokens_of ms ++ rest))
  seq_again ms v rest t st =
      let x = rr.again t.0 v.0 (tokens_of t.1 ++ rest) t.3 (seq_stops t.1 v.1 rest t.4 st) in
      let y = ss.again t.1 v.1 rest t.4 (stops_both kind d (cond n c []) rest st).0 in
      rw (t.2, regroup t.0 t.1 rest) (seq_done {Z = X × Y} limit (λ x y. (x, y)) t.0 t.1 v.0 v.1 rest s (r (tokens_of t.0 ++ (tokens_of t.1 ++ rest))) x y)

  pub seq_reader : Reader kind limit (InTurn R S) (d ++ cond n c []) (read_in_turn r s)
  seq_reader = record { sound = seq_sound; stuck = seq_stuck; again = seq_again }

-- ** a value made of another

module _ {T X Y : Type 0} (kind : T → ℕ) (limit : ℕ) (R : List (T × ℕ) → X → Type 0) (Q : List (T × ℕ) → Y → Type 0) (c : List ℕ) (r : List T → Outcome T X) (read : List T → Outcome T Y) (f : X → Y)
    (rr : Reader kind limit R c r) (into : (ms : List (T × ℕ)) (x : X) → R ms x → Q ms (f x)) (ks : List ℕ) (b : Bool)
    (same : (zs : List T) → starts_with kind ks zs ≡ b → read zs ≡ (r zs >>= λ x. Ok (f x.0, x.1))) where
  pub made_sound : (ts : List T) (v : Y) (rest : List T) → starts_with kind ks ts ≡ b → read ts ≡ Ok (v, rest) → Found limit Q read ts v rest
  made_sound ts v rest h e =
      let a = bind_ok (r ts) (λ x. Ok (f x.0, x.1)) (v, rest) (sym (same ts h) ∙ e) in
      let x = rr.sound ts a.0.0 a.0.1 a.1 in
      let made : Y × List T = (f a.0.0, a.0.1) in
      subst (λ (o : Y × List T). Found limit Q read ts o.0 o.1) (ok_is {y = (v, rest)} a.2) (record {
        marks = x.marks;
        cut = x.cut;
        text = into x.marks a.0.0 x.text;
        fits = x.fits;
        keeps = λ t tail z g. same (tokens_of x.marks ++ t ∷ z) (starts_same kind ks (tokens_of x.marks) ts a.0.1 t tail z x.cut g ∙ h) ∙ rw (x.keeps t tail z g) refl;
      })

  pub made_stuck : (ts : List T) (cause : Cause) (rest : List T) → starts_with kind ks ts ≡ b → read ts ≡ Err (cause, rest) → Stuck limit Q read ts cause rest
  made_stuck ts cause rest h e =
      elim (bind_err (r ts) (λ x. Ok (f x.0, x.1)) (cause, rest) (sym (same ts h) ∙ e)) [
        | inl g ↦
            let x = rr.stuck ts cause rest g in
            record {
              front = x.front;
              cut = x.cut;
              stays = λ t tail z u. same (x.front ++ t ∷ z) (starts_same kind ks x.front ts rest t tail z x.cut u ∙ h) ∙ rw (x.stays t tail z u) refl;
              reach = record { before = x.reach.before; after = x.reach.after; value = f x.reach.value; text = into (x.reach.before ++ x.reach.after) x.reach.value x.reach.text; tokens = x.reach.tokens; fits = x.reach.fits; look = x.reach.look };
            }
        | inr g ↦ absurd (let q = g.2 in cc)
      ]

  pub made_again : (ms : List (T × ℕ)) (x : X) (rest : List T) → R ms x → Stops kind c rest → starts_with kind ks (tokens_of ms ++ rest) ≡ b → Again limit ms (f x) rest (read (tokens_of ms ++ rest))
  made_again ms x rest t st h = rw (same (tokens_of ms ++ rest) h) (again_made limit f ms x rest (r (tokens_of ms ++ rest)) (rr.again ms x rest t st))

-- ** one of two

module _ {T X Y : Type 0} (kind : T → ℕ) (limit : ℕ) (R : List (T × ℕ) → X → Type 0) (S : List (T × ℕ) → Y → Type 0) (f g c d : List ℕ) (r : List T → Outcome T X) (s : List T → Outcome T Y)
    (rr : Reader kind limit R c r) (ss : Reader kind limit S d s) (left : Facts kind R false f) (right : Facts kind S false g) (choice : are_apart g f ≡ true) where
  pick_of : List T → Outcome T (X ⊎ Y)
  pick_of ts = read_one_of_two (starts_with kind f ts) r s ts

  first_way : (zs : List T) → starts_with kind f zs ≡ true → pick_of zs ≡ (r zs >>= λ x. Ok (inl x.0, x.1))
  unfolding pick_of
  first_way zs h = rw h refl

  second_way : (zs : List T) → starts_with kind f zs ≡ false → pick_of zs ≡ (s zs >>= λ x. Ok (inr x.0, x.1))
  unfolding pick_of
  second_way zs h = rw h refl

  pick_sound : (b : Bool) (ts : List T) (v : X ⊎ Y) (rest : List T) → starts_with kind f ts ≡ b → pick_of ts ≡ Ok (v, rest) → Found limit (OneOfTwo R S) pick_of ts v rest
  pick_sound true ts v rest h e = made_sound kind limit R (OneOfTwo R S) c r pick_of inl rr (λ ms x t. t) f true first_way ts v rest h e
  pick_sound false ts v rest h e = made_sound kind limit S (OneOfTwo R S) d s pick_of inr ss (λ ms x t. t) f false second_way ts v rest h e

  pick_stuck : (b : Bool) (ts : List T) (cause : Cause) (rest : List T) → starts_with kind f ts ≡ b → pick_of ts ≡ Err (cause, rest) → Stuck limit (OneOfTwo R S) pick_of ts cause rest
  pick_stuck true ts cause rest h e = made_stuck kind limit R (OneOfTwo R S) c r pick_of inl rr (λ ms x t. t) f true first_way ts cause rest h e
  pick_stuck false ts cause rest h e = made_stuck kind limit S (OneOfTwo R S) d s pick_of inr ss (λ ms x t. t) f false second_way ts cause rest h e

  pick_again : (ms : List (T × ℕ)) (v : X ⊎ Y) (rest : List T) → OneOfTwo R S ms v → Stops kind (c ++ d) rest → Again limit ms v rest (pick_of (tokens_of ms ++ rest))
  pick_again [] (inl x) rest t st = absurd (let e = left.none x t in cc)
  pick_again (m ∷ ms) (inl x) rest t st =
      made_again kind limit R (OneOfTwo R S) c r pick_of inl rr (λ ms x t. t) f true first_way (m ∷ ms) x rest t (stops_both kind c d rest st).0 (left.first_kinds m ms x t)
  pick_again [] (inr y) rest t st = absurd (let e = right.none y t in cc)
  pick_again (m ∷ ms) (inr y) rest t st =
      made_again kind limit S (OneOfTwo R S) d s pick_of inr ss (λ ms x t. t) f false second_way (m ∷ ms) y rest t (stops_both kind c d rest st).1 (apart_at (kind m.0) g f choice (right.first_kinds m ms y t))

  pub pick_reader : Reader kind limit (OneOfTwo R S) (c ++ d) (λ ts. read_one_of_two (starts_with kind f ts) r s ts)
  unfolding pick_of
  pick_reader = record { sound = λ ts v rest e. pick_sound (starts_with kind f ts) ts v rest refl e; stuck = λ ts cause rest e. pick_stuck (starts_with kind f ts) ts cause rest refl e; again = pick_again }

-- ** one or none

module _ {T X : Type 0} (kind : T → ℕ) (limit : ℕ) (R : List (T × ℕ) → X → Type 0) (f c : List ℕ) (r : List T → Outcome T X) (rr : Reader kind limit R c r) (facts : Facts kind R false f) where
  perhaps_of : List T → Outcome T (Option X)
  perhaps_of ts = read_optional (starts_with kind f ts) r ts

  some_way : (zs : List T) → starts_with kind f zs ≡ true → perhaps_of zs ≡ (r zs >>= λ x. Ok (Some x.0, x.1))
  unfolding perhaps_of
  some_way zs h = rw h refl

  none_way : (zs : List T) → starts_with kind f zs ≡ false → perhaps_of zs ≡ Ok (None, zs)
  unfolding perhaps_of
  none_way zs h = rw h refl

  perhaps_sound : (b : Bool) (ts : List T) (v : Option X) (rest : List T) → starts_with kind f ts ≡ b → perhaps_of ts ≡ Ok (v, rest) → Found limit (OneOrNone R) perhaps_of ts v rest
  perhaps_sound true ts v rest h e = made_sound kind limit R (OneOrNone R) c r perhaps_of Some rr (λ ms x t. t) f true some_way ts v rest h e
  perhaps_sound false ts v rest h e =
      let made : Option X × List T = (None, ts) in
      subst (λ (o : Option X × List T). Found limit (OneOrNone R) perhaps_of ts o.0 o.1) (ok_is {x = made} {y = (v, rest)} (sym (none_way ts h) ∙ e)) (record {
        marks = [];
        cut = refl;
        text = refl;
        fits = tt;
        keeps = λ t tail z g. none_way (t ∷ z) (starts_same kind f [] ts ts t tail z refl g ∙ h);
      })

  perhaps_stuck : (b : Bool) (ts : List T) (cause : Cause) (rest : List T) → starts_with kind f ts ≡ b → perhaps_of ts ≡ Err (cause, rest) → Stuck limit (OneOrNone R) perhaps_of ts cause rest
  perhaps_stuck true ts cause rest h e = made_stuck kind limit R (OneOrNone R) c r perhaps_of Some rr (λ ms x t. t) f true some_way ts cause rest h e
  perhaps_stuck false ts cause rest h e = absurd (let g = sym (none_way ts h) ∙ e in cc)

  perhaps_again : (ms : List (T × ℕ)) (v : Option X) (rest : List T) → OneOrNone R ms v → Stops kind (f ++ c) rest → Again limit ms v rest (perhaps_of (tokens_of ms ++ rest))
  perhaps_again ms None rest t st = rw (t, none_way rest (starts_stops kind f rest (stops_both kind f c rest st).0)) (refl, tt)
  perhaps_again [] (Some x) rest t st = absurd (let e = facts.none x t in cc)
  perhaps_again (m ∷ ms) (Some x) rest t st =
      made_again kind limit R (OneOrNone R) c r perhaps_of Some rr (λ ms x t. t) f true some_way (m ∷ ms) x rest t (stops_both kind f c rest st).1 (facts.first_kinds m ms x t)

  pub perhaps_reader : Reader kind limit (OneOrNone R) (f ++ c) (λ ts. read_optional (starts_with kind f ts) r ts)
  unfolding perhaps_of
  perhaps_reader = record { sound = λ ts v rest e. perhaps_sound (starts_with kind f ts) ts v rest refl e; stuck = λ ts cause rest e. perhaps_stuck (starts_with kind f ts) ts cause rest refl e; again = perhaps_again }

-- ** none or more

module _ {T X : Type 0} (kind : T → ℕ) (limit : ℕ) (base : ℕ) (up : ℕ → ℕ) (rises : (l : ℕ) → base ≤ l → base ≤ up l) (R : ℕ → List (T × ℕ) → X → Type 0) (f c : List ℕ) (r : ℕ → List T → Outcome T X)
    (rr : (l : ℕ) → base ≤ l → Reader kind limit (R l) c (r l)) (facts : (l : ℕ) → Facts kind (R l) false f) (choice : are_apart f c ≡ true) where
  turns : ℕ → ℕ → List T → Outcome T (List X)
  turns n l ts = read_repeated kind f up r n l ts

  go : (n l : ℕ) (ts : List T) → starts_with kind f ts ≡ true → turns (suc n) l ts ≡ (r l ts >>= λ x. turns n (up l) x.1 >>= λ y. Ok (x.0 ∷ y.0, y.1))
  unfolding turns
  go n l ts h = rw h refl

  halt : (n l : ℕ) (ts : List T) → starts_with kind f ts ≡ false → turns n l ts ≡ Ok ([], ts)
  unfolding turns
  halt zero l ts h = refl
  halt (suc n) l ts h = rw h refl

  record Turned (l : ℕ) (ts : List T) (vs : List X) (rest : List T) : Type 0 where
    marks : List (T × ℕ)
    cut : ts ≡ tokens_of marks ++ rest
    text : Repeated up R l marks vs
    fits : AllFit limit marks
    keeps : (m : ℕ) (t : T) (tail z : List T) → rest ≡ t ∷ tail → length (tokens_of marks ++ t ∷ z) ≤ m → turns m l (tokens_of marks ++ t ∷ z) ≡ Ok (vs, t ∷ z)

  record Halted (l : ℕ) (ts : List T) (cause : Cause) (rest : List T) : Type 0 where
    front : List T
    cut : ts ≡ front ++ rest
    stays : (m : ℕ) (t : T) (tail z : List T) → rest ≡ t ∷ tail → length (front ++ t ∷ z) ≤ m → turns m l (front ++ t ∷ z) ≡ Err (cause, t ∷ z)
    reach : Reach limit (Repeated up R l) cause front rest

  filled : (l : ℕ) (a : List (T × ℕ)) (x : X) → R l a x → 0 < length (tokens_of a)
  filled l [] x t = absurd (let e = (facts l).none x t in cc)
  filled l (m ∷ a) x t = omega arith

  shorter : (l : ℕ) (a : List (T × ℕ)) (x : X) (ts rest : List T) → R l a x → ts ≡ tokens_of a ++ rest → length rest < length ts
  shorter l a x ts rest t e = let h = filled l a x t in rw e (omega (arith, length-append (tokens_of a) rest))

  no_more : (l : ℕ) (ts : List T) (vs : List X) (rest : List T) → starts_with kind f ts ≡ false → ◌≡◌ {A = Outcome T (List X)} (Ok ([], ts)) (Ok (vs, rest)) → Turned l ts vs rest
  no_more l ts vs rest h e =
      let made : List X × List T = ([], ts) in
      subst (λ (o : List X × List T). Turned l ts o.0 o.1) (ok_is {x = made} {y = (vs, rest)} e) (record {
        marks = [];
        cut = refl;
        text = refl;
        fits = tt;
        keeps = λ m t tail z g _. halt m l (t ∷ z) (starts_same kind f [] ts ts t tail z refl g ∙ h);
      })

  -- one more turn, with at least one token
  turn_ok : (m l : ℕ) (a : List T) (x : X) (b : List T) (xs : List X) (rest : List T) → 0 < length a → starts_with kind f (a ++ b) ≡ true → r l (a ++ b) ≡ Ok (x, b) → length (a ++ b) ≤ m
      → ((k : ℕ) → length b ≤ k → turns k (up l) b ≡ Ok (xs, rest)) → turns m l (a ++ b) ≡ Ok (x ∷ xs, rest)
  turn_ok zero l a x b xs rest p s h le k = absurd (omega (arith, length-append a b))
  turn_ok (suc m) l a x b xs rest p s h le k = go m l (a ++ b) s ∙ rw (h, k m (omega (arith, length-append a b))) refl

  turn_err : (m l : ℕ) (a : List T) (x : X) (b : List T) (e : Cause × List T) → 0 < length a → starts_with kind f (a ++ b) ≡ true → r l (a ++ b) ≡ Ok (x, b) → length (a ++ b) ≤ m
      → ((k : ℕ) → length b ≤ k → turns k (up l) b ≡ Err e) → turns m l (a ++ b) ≡ Err e
  turn_err zero l a x b e p s h le k = absurd (omega (arith, length-append a b))
  turn_err (suc m) l a x b e p s h le k = go m l (a ++ b) s ∙ rw (h, k m (omega (arith, length-append a b))) refl

  item_err : (m l : ℕ) (ts : List T) (e : Cause × List T) → 0 < length ts → starts_with kind f ts ≡ true → r l ts ≡ Err e → length ts ≤ m → turns m l ts ≡ Err e
  item_err zero l ts e p s h le = absurd (omega arith)
  item_err (suc m) l ts e p s h le = go m l ts s ∙ rw h refl

  positive : (front : List T) (t : T) (z : List T) → 0 < length (front ++ t ∷ z)
  positive [] t z = omega arith
  positive (x ∷ front) t z = omega arith

  mutual
    turns_sound : (n : ℕ) (b : Bool) (l : ℕ) (ok : base ≤ l) (ts : List T) (vs : List X) (rest : List T) → length ts ≤ n → starts_with kind f ts ≡ b → turns n l ts ≡ Ok (vs, rest) → Turned l ts vs rest
    turns_sound n false l ok ts vs rest le h e = no_more l ts vs rest h (sym (halt n l ts h) ∙ e)
    turns_sound zero true l ok [] vs rest le h e = absurd cc
    turns_sound zero true l ok (t ∷ ts) vs rest le h e = absurd (omega arith)
    turns_sound (suc n) true l ok ts vs rest le h e =
        let a = bind_ok (r l ts) (λ x. turns n (up l) x.1 >>= λ y. Ok (x.0 ∷ y.0, y.1)) (vs, rest) (sym (go n l ts h) ∙ e) in
        let b = bind_ok (turns n (up l) a.0.1) (λ y. Ok (a.0.0 ∷ y.0, y.1)) (vs, rest) a.2 in
        let x = (rr l ok).sound ts a.0.0 a.0.1 a.1 in
        let less = shorter l x.marks a.0.0 ts a.0.1 x.text x.cut in
        let y = turns_sound n (starts_with kind f a.0.1) (up l) (rises l ok) a.0.1 b.0.0 b.0.1 (omega arith) refl b.1 in
        let made : List X × List T = (a.0.0 ∷ b.0.0, b.0.1) in
        subst (λ (o : List X × List T). Turned l ts o.0 o.1) (ok_is {x = made} {y = (vs, rest)} b.2) (record {
          marks = x.marks ++ y.marks;
          cut = x.cut ∙ ap (λ zs. tokens_of x.marks ++ zs) y.cut ∙ sym (regroup x.marks y.marks b.0.1);
          text = (x.marks, y.marks, refl, x.text, y.text);
          fits = fit-append limit x.marks y.marks x.fits y.fits;
          keeps = λ m t tail z g le.
              let k = keep_at limit (R l) (r l) ts a.0.0 a.0.1 x (tokens_of y.marks) t tail z (y.cut ∙ ap (λ zs. tokens_of y.marks ++ zs) g) in
              let same = regroup x.marks y.marks (t ∷ z) in
              let cut = x.cut ∙ ap (λ zs. tokens_of x.marks ++ zs) y.cut ∙ sym (regroup x.marks y.marks b.0.1) in
              ap (turns m l) same ∙ turn_ok m l (tokens_of x.marks) a.0.0 (tokens_of y.marks ++ t ∷ z) b.0.0 (t ∷ z) (filled l x.marks a.0.0 x.text)
              (ap (starts_with kind f) (sym same) ∙ starts_same kind f (tokens_of (x.marks ++ y.marks)) ts b.0.1 t tail z cut g ∙ h) k (subst (λ zs. length zs ≤ m) same le)
              (λ k. y.keeps k t tail z g);
        })

  turns_stuck : (n : ℕ) (b : Bool) (l : ℕ) (ok : base ≤ l) (ts : List T) (cause : Cause) (rest : List T) → length ts ≤ n → starts_with kind f ts ≡ b → turns n l ts ≡ Err (cause, rest) → Halted l ts cause rest
  turns_stuck n false l ok ts cause rest le h e = absurd (let g = sym (halt n l ts h) ∙ e in cc)
  turns_stuck zero true l ok [] cause rest le h e = absurd cc
  turns_stuck zero true l ok (t ∷ ts) cause rest le h e = absurd (omega arith)
  turns_stuck (suc n) true l ok ts cause rest le h e =
      elim (bind_err (r l ts) (λ x. turns n (up l) x.1 >>= λ y. Ok (x.0 ∷ y.0, y.1)) (cause, rest) (sym (go n l ts h) ∙ e)) [
        | inl g ↦
            let x = (rr l ok).stuck ts cause rest g in
            record {
              front = x.front;
              cut = x.cut;
              stays = λ m t tail z u le. item_err m l (x.front ++ t ∷ z) (cause, t ∷ z) (positive x.front t z) (starts_same kind f x.front ts rest t tail z x.cut u ∙ h) (x.stays t tail z u) le;
              reach = record {
                before = x.reach.before;
                after = x.reach.after;
                value = x.reach.value ∷ [];
                text = (x.reach.before ++ x.reach.after, [], sym (append-nil (x.reach.before ++ x.reach.after)), x.reach.text, refl);
                tokens = x.reach.tokens;
                fits = x.reach.fits;
                look = x.reach.look;
              };
            }
        | inr a ↦
            let x = (rr l ok).sound ts a.0.0 a.0.1 a.1 in
            let less = shorter l x.marks a.0.0 ts a.0.1 x.text x.cut in
            elim (bind_err (turns n (up l) a.0.1) (λ y. Ok (a.0.0 ∷ y.0, y.1)) (cause, rest) a.2) [
              | inl g ↦
                  let y = turns_stuck n (starts_with kind f a.0.1) (up l) (rises l ok) a.0.1 cause rest (omega arith) refl g in
                  record {
                    front = tokens_of x.marks ++ y.front;
                    cut = x.cut ∙ ap (λ zs. tokens_of x.marks ++ zs) y.cut ∙ sym (append_assoc (tokens_of x.marks) y.front rest);
                    stays = λ m t tail z u le.
                        let k = keep_at limit (R l) (r l) ts a.0.0 a.0.1 x y.front t tail z (y.cut ∙ ap (λ zs. y.front ++ zs) u) in
                        let same = append_assoc (tokens_of x.marks) y.front (t ∷ z) in
                        let cut = x.cut ∙ ap (λ zs. tokens_of x.marks ++ zs) y.cut ∙ sym (append_assoc (tokens_of x.marks) y.front rest) in
                        ap (turns m l) same ∙ turn_err m l (tokens_of x.marks) a.0.0 (y.front ++ t ∷ z) (cause, t ∷ z) (filled l x.marks a.0.0 x.text)
                        (ap (starts_with kind f) (sym same) ∙ starts_same kind f (tokens_of x.marks ++ y.front) ts rest t tail z cut u ∙ h) k (subst (λ zs. length zs ≤ m) same le)
                        (λ k. y.stays k t tail z u);
                    reach = record {
                      before = x.marks ++ y.reach.before;
                      after = y.reach.after;
                      value = a.0.0 ∷ y.reach.value;
                      text = (x.marks, y.reach.before ++ y.reach.after, append_assoc x.marks y.reach.before y.reach.after, x.text, y.reach.text);
                      tokens = tokens_of-append x.marks y.reach.before ∙ ap (λ zs. tokens_of x.marks ++ zs) y.reach.tokens;
                      fits = fit-append limit x.marks y.reach.before x.fits y.reach.fits;
                      look = y.reach.look;
                    };
                  }
              | inr g ↦ absurd (let q = g.2 in cc)
            ]
      ]

  repeat_first : (l : ℕ) (m : T × ℕ) (b : List (T × ℕ)) (vs : List X) → Repeated up R l (m ∷ b) vs → member (kind m.0) f ≡ true
  repeat_first l m b [] t = absurd cc
  repeat_first l m b (v ∷ vs) t = head_of t.0 t.2 t.3
    where
      head_of : (a : List (T × ℕ)) → (m ∷ b) ≡ a ++ t.1 → R l a v → member (kind m.0) f ≡ true
      head_of [] e ra = absurd (let z = (facts l).none v ra in cc)
      head_of (k ∷ a) e ra = let s : m ≡ k = cc in rw s ((facts l).first_kinds k a v ra)

  next_stops : (l : ℕ) (b : List (T × ℕ)) (vs : List X) (rest : List T) → Repeated up R l b vs → Stops kind (f ++ c) rest → Stops kind c (tokens_of b ++ rest)
  next_stops l [] vs rest t st = (stops_both kind f c rest st).1
  next_stops l (m ∷ b) vs rest t st = apart_at (kind m.0) f c choice (repeat_first l m b vs t)

  starts_item : (l : ℕ) (a : List (T × ℕ)) (v : X) (zs : List T) → R l a v → starts_with kind f (tokens_of a ++ zs) ≡ true
  starts_item l [] v zs t = absurd (let e = (facts l).none v t in cc)
  starts_item l (m ∷ a) v zs t = (facts l).first_kinds m a v t

  turns_again : (n l : ℕ) (ok : base ≤ l) (ms : List (T × ℕ)) (vs : List X) (rest : List T) → Repeated up R l ms vs → Stops kind (f ++ c) rest → length (tokens_of ms ++ rest) ≤ n → Again limit ms vs rest (turns n l (tokens_of ms ++ rest))
  turns_again n l ok ms [] rest t st le = rw (t, halt n l rest (starts_stops kind f rest (stops_both kind f c rest st).0)) (refl, tt)
  turns_again zero l ok ms (v ∷ vs) rest t st le =
      absurd (let p = filled l t.0 v t.3 in let q : length (tokens_of t.0 ++ (tokens_of t.1 ++ rest)) ≤ 0 = subst (λ zs. length zs ≤ 0) (ap (λ ks. tokens_of ks ++ rest) t.2 ∙ regroup t.0 t.1 rest) le in omega (arith, length-append (tokens_of t.0) (tokens_of t.1 ++ rest)))
  turns_again (suc n) l ok ms (v ∷ vs) rest t st le =
      let p = filled l t.0 v t.3 in
      let q : length (tokens_of t.0 ++ (tokens_of t.1 ++ rest)) ≤ suc n = subst (λ zs. length zs ≤ suc n) (ap (λ ks. tokens_of ks ++ rest) t.2 ∙ regroup t.0 t.1 rest) le in
      let x = (rr l ok).again t.0 v (tokens_of t.1 ++ rest) t.3 (next_stops (up l) t.1 vs rest t.4 st) in
      let y = turns_again n (up l) (rises l ok) t.1 vs rest t.4 st (omega (arith, length-append (tokens_of t.0) (tokens_of t.1 ++ rest))) in
      rw (t.2, regroup t.0 t.1 rest, go n l (tokens_of t.0 ++ (tokens_of t.1 ++ rest)) (starts_item l t.0 v (tokens_of t.1 ++ rest) t.3))
      (seq_done limit (λ x y. x ∷ y) t.0 t.1 v vs rest (turns n (up l)) (r l (tokens_of t.0 ++ (tokens_of t.1 ++ rest))) x y)

  pub repeat_reader : (l : ℕ) → base ≤ l → Reader kind limit (Repeated up R l) (f ++ c) (λ ts. read_repeated kind f up r (length ts) l ts)
  unfolding turns
  repeat_reader l ok = record {
    sound = λ ts vs rest e.
        let x = turns_sound (length ts) (starts_with kind f ts) l ok ts vs rest (omega arith) refl e in
        record { marks = x.marks; cut = x.cut; text = x.text; fits = x.fits; keeps = λ t tail z h. x.keeps (length (tokens_of x.marks ++ t ∷ z)) t tail z h (omega arith) };
    stuck = λ ts cause rest e.
        let x = turns_stuck (length ts) (starts_with kind f ts) l ok ts cause rest (omega arith) refl e in
        record { front = x.front; cut = x.cut; stays = λ t tail z h. x.stays (length (x.front ++ t ∷ z)) t tail z h (omega arith); reach = x.reach };
    again = λ ms vs rest t st. turns_again (length (tokens_of ms ++ rest)) l ok ms vs rest t st (omega arith);
  }

-- ** turns that take at least one token each

abbrev after : {T X : Type 0} → (X × List T → Outcome T (List X)) → X × List T → Outcome T (List X)
after g x = g x >>= λ y. Ok (x.0 ∷ y.0, y.1)

module _ {T X : Type 0} (kind : T → ℕ) (f : List ℕ) (up : ℕ → ℕ) (r : ℕ → List T → Outcome T X) (takes : (l : ℕ) (ts : List T) (x : X) (rest : List T) → r l ts ≡ Ok (x, rest) → length rest < length ts) where
  repeat_same_turns : (n m l : ℕ) (ts : List T) → length ts ≤ n → length ts ≤ m → read_repeated kind f up r n l ts ≡ read_repeated kind f up r m l ts
  repeat_same_turns zero zero l ts h g = refl
  repeat_same_turns zero (suc m) l [] h g = refl
  repeat_same_turns zero (suc m) l (t ∷ ts) h g = absurd (omega arith)
  repeat_same_turns (suc n) zero l [] h g = refl
  repeat_same_turns (suc n) zero l (t ∷ ts) h g = absurd (omega arith)
  repeat_same_turns (suc n) (suc m) l ts h g = either_way (starts_with kind f ts) (on (r l ts) (λ x rest e. let k = takes l ts x rest e in repeat_same_turns n m (up l) rest (omega arith) (omega arith)))
    where
      either_way : (b : Bool) {x y : Outcome T (List X)} → x ≡ y → cond b x (Ok ([], ts)) ≡ cond b y (Ok ([], ts))
      either_way b e = rw e refl

      on : (o : Outcome T X) → ((x : X) (rest : List T) → o ≡ Ok (x, rest) → read_repeated kind f up r n (up l) rest ≡ read_repeated kind f up r m (up l) rest)
          → (o >>= after (λ x. read_repeated kind f up r n (up l) x.1)) ≡ (o >>= after (λ x. read_repeated kind f up r m (up l) x.1))
      on (Ok x) same = rw (same x.0 x.1 refl) refl
      on (Err e) same = refl

  pub repeat_turn : (l : ℕ) (ts : List T) → starts_with kind f ts ≡ true → read_repeated kind f up r (length ts) l ts ≡ (r l ts >>= λ x. read_repeated kind f up r (length x.1) (up l) x.1 >>= λ y. Ok (x.0 ∷ y.0, y.1))
  repeat_turn l [] h = absurd cc
  repeat_turn l (t ∷ ts) h = rw h (on (r l (t ∷ ts)) (λ x rest e. let k = takes l (t ∷ ts) x rest e in repeat_same_turns (length ts) (length rest) (up l) rest (omega arith) (omega arith)))
    where
      on : (o : Outcome T X) → ((x : X) (rest : List T) → o ≡ Ok (x, rest) → read_repeated kind f up r (length ts) (up l) rest ≡ read_repeated kind f up r (length rest) (up l) rest)
          → (o >>= after (λ x. read_repeated kind f up r (length ts) (up l) x.1)) ≡ (o >>= after (λ x. read_repeated kind f up r (length x.1) (up l) x.1))
      on (Ok x) same = rw (same x.0 x.1 refl) refl
      on (Err e) same = refl

pub repeat_end : {T X : Type 0} (kind : T → ℕ) (f : List ℕ) (up : ℕ → ℕ) (r : ℕ → List T → Outcome T X) (n l : ℕ) (ts : List T) → starts_with kind f ts ≡ false → read_repeated kind f up r n l ts ≡ Ok ([], ts)
repeat_end kind f up r zero l ts h = refl
repeat_end kind f up r (suc n) l ts h = rw h refl
