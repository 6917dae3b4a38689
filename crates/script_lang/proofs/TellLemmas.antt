-- A line more: the labels and the moment stay those of the lines.
use Rattle.std.proofs.Common.{◌≡◌, ℕ, cond, List, [], ◌∷◌, ◌++◌, refl, sym, ap, ◌∙◌}
use Rattle.std.proofs.lemmas.List.{append-nil}
use Rattle.std.proofs.lemmas.List.Concat.{flat_map-append}
use Rattle.std.proofs.lemmas.List.Sums.{fold-append}
use Rattle.script_lang.specs.declared.verb.Verb.{Verb}
use Rattle.script_lang.specs.declared.verb.Verb.TheVariants.{Access, Create, Request, Update, Close, Remove, Certificate, Feed, Clock, Evict, Settle}
use Rattle.script_lang.specs.declared.script.Line.{Line}
use Rattle.script_lang.specs.declared.told.Told.{Told}
use Rattle.script_lang.specs.Verbs.{is_create}
use Rattle.script_lang.specs.Script.{moment_after}
use Rattle.script_lang.specs.Grammar.{action_of, created_by, created, moment_at_end}
use Rattle.script_lang.specs.Read.{IsTold}

label_of : (verb : Verb) (labels : List (List ℕ)) (first second last : List ℕ) → cond (is_create verb) (labels ++ first ∷ []) labels ≡ labels ++ created_by (action_of verb first second last)
label_of Access labels first second last = sym (append-nil labels)
label_of Create labels first second last = refl
label_of Request labels first second last = sym (append-nil labels)
label_of Update labels first second last = sym (append-nil labels)
label_of Close labels first second last = sym (append-nil labels)
label_of Remove labels first second last = sym (append-nil labels)
label_of Certificate labels first second last = sym (append-nil labels)
label_of Feed labels first second last = sym (append-nil labels)
label_of Clock labels first second last = sym (append-nil labels)
label_of Evict labels first second last = sym (append-nil labels)
label_of Settle labels first second last = sym (append-nil labels)

created_more : (lines : List Line) (line : Line) → created (lines ++ line ∷ []) ≡ created lines ++ created_by line.action
created_more lines line = flat_map-append (λ l. created_by l.action) lines (line ∷ []) ∙ ap (λ xs. created lines ++ xs) (append-nil (created_by line.action))

pub one_told : (old mid new : Told) (line : Line) (verb : Verb) (first second last : List ℕ) → IsTold old
    → mid.labels ≡ cond (is_create verb) (old.labels ++ first ∷ []) old.labels → mid.moment ≡ old.moment → mid.lines ≡ old.lines
    → line.action ≡ action_of verb first second last
    → new.labels ≡ mid.labels → new.moment ≡ moment_after mid.moment line.action → new.lines ≡ mid.lines ++ line ∷ [] → IsTold new
one_told old mid new line verb first second last told labels moment lines action labels' moment' lines' =
    let grown : new.lines ≡ old.lines ++ line ∷ [] = lines' ∙ ap (λ xs. xs ++ line ∷ []) lines in
    let list : new.labels ≡ old.labels ++ created_by line.action =
    labels' ∙ labels ∙ label_of verb old.labels first second last ∙ ap (λ a. old.labels ++ created_by a) (sym action) in
    let all : new.labels ≡ created new.lines =
    list ∙ ap (λ xs. xs ++ created_by line.action) told.labels ∙ sym (created_more old.lines line) ∙ ap created (sym grown) in
    let at : new.moment ≡ moment_after (moment_at_end old.lines) line.action = moment' ∙ ap (λ m. moment_after m line.action) (moment ∙ told.moment) in
    record {
      labels = all;
      moment = at ∙ sym (fold-append (λ m l. moment_after m l.action) 0 old.lines (line ∷ [])) ∙ ap moment_at_end (sym grown);
    }
