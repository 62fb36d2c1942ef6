-- The grammar and the reading from the first line on say the same.
use Rattle.std.proofs.Common.{◌≡◌, ℕ, zero, suc, ◌+◌, ◌-◌, ◌≤◌, ◌<◌, Bool, true, false, cond, ltb, List, [], ◌∷◌, ◌++◌, length, Result, Ok, Err, refl, sym, ap, subst, ◌∙◌, append_assoc, inl, inr, ◌⊎◌, arith}
use Rattle.std.specs.Str.{bytes_eq}
use Rattle.std.proofs.lemmas.List.{append-nil}
use Rattle.std.proofs.lemmas.Bool.{lt-ltb, ltb-true}
use Rattle.std.proofs.lemmas.Slice.Eq.{bytes_eq-Decides}
use Rattle.conf_text.specs.declared.fault.FaultKind.{FaultKind}
use Rattle.conf_text.specs.declared.fault.FaultKind.TheVariants as kinds
use Rattle.conf_text.specs.declared.fault.ConfFault.{ConfFault}
use Rattle.conf_text.specs.Form.{LineForm, ignored, opens, ends, parameter, bad_name, bad_quote}
use Rattle.conf_text.specs.Trees.{Setting, Tree, tree, trees}
use Rattle.conf_text.specs.Grammar.{Line, IsContents, nothing, passed, set, section, most_open, top, Begin, IsFaultOf, BreaksAt, EndsOpen}
use Rattle.conf_text.specs.Reading.{◌>>=◌, headed, set_to, Frame, frame, Stack, stack, faulty, end_in, with_setting, with_element, closed, open_one, close_in, close_one, step, steps, start}

-- After these lines the first frame is the innermost, and the list has those round it, from the
-- inside out: so many sections are open as the list is long.
pub data IsOpen : List Line → Frame → List Frame → Type 0 where
  outside : {before : List Line} {settings : List Setting} {elements : List Tree} → IsContents most_open before settings elements → IsOpen before (frame top settings elements) []
  inside : {before within : List Line} {parent : Frame} {outer : List Frame} {room line : ℕ} {name argument : List ℕ} {settings : List Setting} {elements : List Tree}
      → IsOpen before parent outer
      → length outer + suc room ≡ most_open
      → IsContents room within settings elements
      → IsOpen (before ++ ((line, opens name argument) ∷ within)) (frame (headed name argument line) settings elements) (parent ∷ outer)

-- a stack whose innermost frame has more in it
abbrev pub extended : Stack → List Setting → List Tree → Stack
extended s settings elements = stack (frame s.innermost.heading (s.innermost.settings ++ settings) (s.innermost.elements ++ elements)) s.outer

bind-bind : {A B C : Type 0} (r : Result A ConfFault) (f : A → Result B ConfFault) (g : B → Result C ConfFault) (h : A → Result C ConfFault) → ((x : A) → h x ≡ (f x >>= g)) → (r >>= h) ≡ ((r >>= f) >>= g)
bind-bind (Ok x) f g h e = e x
bind-bind (Err d) f g h e = refl

pub steps-append : (xs ys : List Line) (s : Stack) → steps (xs ++ ys) s ≡ (steps xs s >>= λ t. steps ys t)
steps-append [] ys s = refl
steps-append (x ∷ xs) ys s = bind-bind (step x.0 x.1 s) (λ t. steps xs t) (λ t. steps ys t) (λ t. steps (xs ++ ys) t) (λ t. steps-append xs ys t)

-- lines after lines that were read
pub steps_after : (xs ys : List Line) (s t : Stack) → steps xs s ≡ Ok t → steps (xs ++ ys) s ≡ steps ys t
steps_after xs ys s t e = steps-append xs ys s ∙ ap (λ (r : Result Stack ConfFault). r >>= λ u. steps ys u) e

-- a section opens where fewer are open than may be
pub opened : (line : ℕ) (name argument : List ℕ) (s : Stack) → length s.outer < most_open → open_one line name argument s ≡ Ok (stack (frame (headed name argument line) [] []) (s.innermost ∷ s.outer))
unfolding open_one
opened line name argument s lt = rw (lt-ltb (length s.outer) most_open lt) refl

-- and ends at its name
pub ended : (line : ℕ) (name : List ℕ) (innermost parent : Frame) (outer : List Frame) → innermost.heading.name ≡ name → close_one line name (stack innermost (parent ∷ outer)) ≡ Ok (stack (with_element parent (closed innermost)) outer)
unfolding close_one
ended line name innermost parent outer e = rw ((bytes_eq-Decides innermost.heading.name name).1 e) refl

-- ---- what is in the grammar is read

extended-none : (s : Stack) → extended s [] [] ≡ s
extended-none s = rw (append-nil s.innermost.settings, append-nil s.innermost.elements) refl

extended-setting : (s : Stack) (x : Setting) (settings : List Setting) (elements : List Tree) → extended (stack (with_setting s.innermost x) s.outer) settings elements ≡ extended s (x ∷ settings) elements
extended-setting s x settings elements = rw (append_assoc s.innermost.settings (x ∷ []) settings) refl

extended-element : (s : Stack) (t : Tree) (settings : List Setting) (elements : List Tree) → extended (stack (with_element s.innermost t) s.outer) settings elements ≡ extended s settings (t ∷ elements)
extended-element s t settings elements = rw (append_assoc s.innermost.elements (t ∷ []) elements) refl

pub contents_read : {room : ℕ} {lines : List Line} {settings : List Setting} {elements : List Tree} → IsContents room lines settings elements → (s : Stack) → length s.outer + room ≡ most_open → steps lines s ≡ Ok (extended s settings elements)
contents_read nothing s fits = ap (λ t. Ok t) (sym (extended-none s))
contents_read (passed rest) s fits = contents_read rest s fits
contents_read (set {line} {name} {value} {settings} {elements} rest) s fits =
    contents_read rest (stack (with_setting s.innermost (set_to name value line)) s.outer) fits ∙ ap (λ t. Ok t) (extended-setting s (set_to name value line) settings elements)
contents_read (section {room} {line} {name} {argument} {inside} {rest = behind} {within} {settings} {children} {elements} end within_is rest) s fits =
    let heading = headed name argument line in
    let below = stack (frame heading [] []) (s.innermost ∷ s.outer) in
    let whole = stack (with_element s.innermost (tree heading within (trees children))) s.outer in
    let opening : open_one line name argument s ≡ Ok below = opened line name argument s (omega arith) in
    let contents : steps inside below ≡ Ok (extended below within children) = contents_read within_is below (omega arith) in
    let ending : close_one end name (extended below within children) ≡ Ok whole = ended end name (frame heading within children) s.innermost s.outer refl in
    let others : steps behind whole ≡ Ok (extended whole settings elements) = contents_read rest whole fits in
    ap (λ (r : Result Stack ConfFault). r >>= λ t. steps (inside ++ ((end, ends name) ∷ behind)) t) opening
    ∙ steps_after inside ((end, ends name) ∷ behind) below (extended below within children) contents
    ∙ ap (λ (r : Result Stack ConfFault). r >>= λ t. steps behind t) ending
    ∙ others
    ∙ ap (λ t. Ok t) (extended-element s (tree heading within (trees children)) settings elements)

-- the open frames are the stack
pub open_read : {before : List Line} {innermost : Frame} {outer : List Frame} → IsOpen before innermost outer → steps before start ≡ Ok (stack innermost outer)
open_read (outside {before} contents) = contents_read contents start refl
open_read (inside {before} {within = content} {parent} {outer} {room} {line} {name} {argument} {settings} {elements} around fits contents) =
    let below = stack (frame (headed name argument line) [] []) (parent ∷ outer) in
    steps_after before ((line, opens name argument) ∷ content) start (stack parent outer) (open_read around)
    ∙ ap (λ (r : Result Stack ConfFault). r >>= λ t. steps content t) (opened line name argument (stack parent outer) (omega arith))
    ∙ contents_read contents below (omega arith)

-- ---- what is read is in the grammar

-- contents go on with contents
pub IsContents-append : {room : ℕ} {xs ys : List Line} {p q : List Setting} {a b : List Tree} → IsContents room xs p a → IsContents room ys q b → IsContents room (xs ++ ys) (p ++ q) (a ++ b)
IsContents-append nothing more = more
IsContents-append (passed rest) more = passed (IsContents-append rest more)
IsContents-append (set rest) more = set (IsContents-append rest more)
IsContents-append (section end within_is rest) more = rw append_assoc (section end within_is (IsContents-append rest more))

-- the innermost frame takes one more part
open_more : {before : List Line} {innermost : Frame} {outer : List Frame} (part : List Line) (settings : List Setting) (elements : List Tree)
    → IsOpen before innermost outer
    → ((room : ℕ) → length outer + room ≡ most_open → IsContents room part settings elements)
    → IsOpen (before ++ part) (frame innermost.heading (innermost.settings ++ settings) (innermost.elements ++ elements)) outer
open_more part settings elements (outside contents) part_is = outside (IsContents-append contents (part_is most_open refl))
open_more part settings elements (inside {room} around fits contents) part_is = rw append_assoc (inside around fits (IsContents-append contents (part_is room (omega arith))))

-- each form of a line keeps what is open in the grammar
ignored_open : {before : List Line} {innermost : Frame} {outer : List Frame} (line : ℕ) → IsOpen before innermost outer → IsOpen (before ++ ((line, ignored) ∷ [])) innermost outer
ignored_open {innermost} line opened_is =
    let more = open_more ((line, ignored) ∷ []) [] [] opened_is (λ room fits. passed nothing) in
    rw (append-nil innermost.settings, append-nil innermost.elements) at more

set_open : {before : List Line} {innermost : Frame} {outer : List Frame} (line : ℕ) (name value : List ℕ) → IsOpen before innermost outer → IsOpen (before ++ ((line, parameter name value) ∷ [])) (with_setting innermost (set_to name value line)) outer
set_open {innermost} line name value opened_is =
    let more = open_more ((line, parameter name value) ∷ []) (set_to name value line ∷ []) [] opened_is (λ room fits. set nothing) in
    rw (append-nil innermost.elements) at more

opens_open : {before : List Line} {innermost : Frame} {outer : List Frame} (line : ℕ) (name argument : List ℕ) → length outer < most_open → IsOpen before innermost outer → IsOpen (before ++ ((line, opens name argument) ∷ [])) (frame (headed name argument line) [] []) (innermost ∷ outer)
opens_open {outer} line name argument lt opened_is = inside {room = 7 - length outer} opened_is (omega arith) nothing

ends_open : {before : List Line} {innermost parent : Frame} {outer : List Frame} (line : ℕ) (name : List ℕ) → IsOpen before innermost (parent ∷ outer) → innermost.heading.name ≡ name → IsOpen (before ++ ((line, ends name) ∷ [])) (with_element parent (closed innermost)) outer
ends_open line name (inside {before} {within = content} {parent} {outer} {room} {line = opening} {name = opened_name} {argument} {settings} {elements} around fits contents) same =
    let part = ((opening, opens opened_name argument) ∷ content) ++ ((line, ends opened_name) ∷ []) in
    let one : (more : ℕ) → length outer + more ≡ most_open → IsContents more part [] (tree (headed opened_name argument opening) settings (trees elements) ∷ []) = λ more e. subst (λ (k : ℕ). IsContents k part [] (tree (headed opened_name argument opening) settings (trees elements) ∷ [])) (omega arith) (section line contents nothing) in
    let more = open_more part [] (tree (headed opened_name argument opening) settings (trees elements) ∷ []) around one in
    let shorter = rw (append-nil parent.settings) at more in
    let name_is : opened_name ≡ name = same in
    rw (append_assoc, ← name_is) shorter

ok_is : (s t : Stack) → ◌≡◌ {A = Result Stack ConfFault} (Ok s) (Ok t) → s ≡ t
ok_is s t e = cc

pub err_is : {A : Type 0} (e f : ConfFault) → ◌≡◌ {A = Result A ConfFault} (Err e) (Err f) → e ≡ f
err_is e f h = cc

pub no_ok : {A : Type 0} (e : ConfFault) (x : A) → ◌≡◌ {A = Result A ConfFault} (Err e) (Ok x) → ⊥
no_ok e x h = cc

pub no_err : {A : Type 0} (x : A) (e : ConfFault) → ◌≡◌ {A = Result A ConfFault} (Ok x) (Err e) → ⊥
no_err x e h = cc

chosen_ok : {A : Type 0} (b : Bool) (x y : A) (e : ConfFault) → ◌≡◌ {A = Result A ConfFault} (cond b (Ok x) (Err e)) (Ok y) → (b ≡ true) × (x ≡ y)
chosen_ok true x y e h = (refl, cc)
chosen_ok false x y e h = absurd (no_ok e y h)

chosen_err : {A : Type 0} (b : Bool) (x : A) (e f : ConfFault) → ◌≡◌ {A = Result A ConfFault} (cond b (Ok x) (Err e)) (Err f) → (b ≡ false) × (e ≡ f)
chosen_err true x e f h = absurd (no_err x f h)
chosen_err false x e f h = (refl, cc)

-- a step that was taken leaves what is open in the grammar
close_open : (line : ℕ) (name : List ℕ) (before : List Line) (innermost : Frame) (outer : List Frame) (t : Stack) → IsOpen before innermost outer → close_in line name innermost outer ≡ Ok t → IsOpen (before ++ ((line, ends name) ∷ [])) t.innermost t.outer
close_open line name before innermost [] t opened_is e = absurd (no_ok _ _ e)
close_open line name before innermost (parent ∷ outer) t opened_is e =
    let c = chosen_ok (bytes_eq innermost.heading.name name) (stack (with_element parent (closed innermost)) outer) t _ e in
    let open_now = ends_open line name opened_is ((bytes_eq-Decides innermost.heading.name name).0 c.0) in
    subst (λ (u : Stack). IsOpen (before ++ ((line, ends name) ∷ [])) u.innermost u.outer) c.1 open_now

step_open : (line : ℕ) (form : LineForm) (before : List Line) (s t : Stack) → IsOpen before s.innermost s.outer → step line form s ≡ Ok t → IsOpen (before ++ ((line, form) ∷ [])) t.innermost t.outer
unfolding open_one close_one
step_open line ignored before s t opened_is e = subst (λ (u : Stack). IsOpen (before ++ ((line, ignored) ∷ [])) u.innermost u.outer) (ok_is s t e) (ignored_open line opened_is)
step_open line (opens name argument) before s t opened_is e =
    let c = chosen_ok (ltb (length s.outer) most_open) (stack (frame (headed name argument line) [] []) (s.innermost ∷ s.outer)) t _ e in
    subst (λ (u : Stack). IsOpen (before ++ ((line, opens name argument) ∷ [])) u.innermost u.outer) c.1 (opens_open line name argument (ltb-true _ _ c.0) opened_is)
step_open line (ends name) before s t opened_is e = close_open line name before s.innermost s.outer t opened_is e
step_open line (parameter name value) before s t opened_is e = subst (λ (u : Stack). IsOpen (before ++ ((line, parameter name value) ∷ [])) u.innermost u.outer) (ok_is _ t e) (set_open line name value opened_is)
step_open line bad_name before s t opened_is e = absurd (no_ok _ _ e)
step_open line bad_quote before s t opened_is e = absurd (no_ok _ _ e)

-- a step that wasn't taken has the fault of its form, in its line
of_form : (kind : FaultKind) (line : ℕ) (form : LineForm) (f : ConfFault) → ◌≡◌ {A = ConfFault} (record { kind = kind; line = line }) f → IsFaultOf kind form → IsFaultOf f.kind form × (line ≡ f.line)
of_form kind line form f e is = subst (λ (g : ConfFault). IsFaultOf g.kind form × (line ≡ g.line)) e (is, refl)

close_fault : (line : ℕ) (name : List ℕ) (innermost : Frame) (outer : List Frame) (f : ConfFault) → close_in line name innermost outer ≡ Err f → IsFaultOf f.kind (ends name) × (line ≡ f.line)
close_fault line name innermost [] f e = of_form kinds.WrongEnd line (ends name) f (err_is _ f e) tt
close_fault line name innermost (parent ∷ outer) f e =
    let c = chosen_err (bytes_eq innermost.heading.name name) (stack (with_element parent (closed innermost)) outer) _ f e in
    of_form kinds.WrongEnd line (ends name) f c.1 tt

step_fault : (line : ℕ) (form : LineForm) (s : Stack) (f : ConfFault) → step line form s ≡ Err f → IsFaultOf f.kind form × (line ≡ f.line)
unfolding open_one close_one
step_fault line ignored s f e = absurd (no_err _ _ e)
step_fault line (opens name argument) s f e =
    let c = chosen_err (ltb (length s.outer) most_open) (stack (frame (headed name argument line) [] []) (s.innermost ∷ s.outer)) _ f e in
    of_form kinds.TooDeep line (opens name argument) f c.1 tt
step_fault line (ends name) s f e = close_fault line name s.innermost s.outer f e
step_fault line (parameter name value) s f e = absurd (no_err _ _ e)
step_fault line bad_name s f e = of_form kinds.BadName line bad_name f (err_is _ f e) tt
step_fault line bad_quote s f e = of_form kinds.BadQuote line bad_quote f (err_is _ f e) tt

pub bind_ok : (r : Result Stack ConfFault) (g : Stack → Result Stack ConfFault) (t : Stack) → (r >>= g) ≡ Ok t → (u : Stack) × (r ≡ Ok u) × (g u ≡ Ok t)
bind_ok (Ok u) g t e = (u, refl, e)
bind_ok (Err f) g t e = absurd (no_ok _ _ e)

-- either step fails, or the steps after it do
pub bind_err : {A : Type 0} (r : Result Stack ConfFault) (g : Stack → Result A ConfFault) (f : ConfFault) → (r >>= g) ≡ Err f → (r ≡ Err f) ⊎ ((u : Stack) × (r ≡ Ok u) × (g u ≡ Err f))
bind_err (Ok u) g f e = inr (u, refl, e)
bind_err (Err d) g f e = inl (ap (λ (x : ConfFault). Err x) (err_is d f e))

pub steps_open : (lines before : List Line) (s t : Stack) → IsOpen before s.innermost s.outer → steps lines s ≡ Ok t → IsOpen (before ++ lines) t.innermost t.outer
steps_open [] before s t opened_is e = rw (append-nil before) (subst (λ (u : Stack). IsOpen before u.innermost u.outer) (ok_is s t e) opened_is)
steps_open (line ∷ lines) before s t opened_is e =
    let b = bind_ok (step line.0 line.1 s) (λ u. steps lines u) t e in
    let now = steps_open lines (before ++ (line ∷ [])) b.0 t (step_open line.0 line.1 before s b.0 opened_is b.1) b.2 in
    rw append_assoc at now

pub start_open : IsOpen [] start.innermost start.outer
start_open = outside nothing

-- outside every section there is no heading
pub top_is : {before : List Line} {innermost : Frame} → IsOpen before innermost [] → (settings : List Setting) × (elements : List Tree) × (innermost ≡ frame top settings elements) × IsContents most_open before settings elements
top_is (outside {settings} {elements} contents) = (settings, elements, refl, contents)

-- ---- lines that begin a configuration are those that are taken

pub begun_taken : (lines : List Line) → Begin lines → (s : Stack) × (steps lines start ≡ Ok s)
begun_taken lines (more, settings, elements, contents) =
    let b = bind_ok (steps lines start) (λ t. steps more t) (extended start settings elements) (sym (steps-append lines more start) ∙ contents_read contents start refl) in
    (b.0, b.1)

-- the sections that are open can end
pub open_begins : (outer : List Frame) (innermost : Frame) (before : List Line) → IsOpen before innermost outer → Begin before
open_begins [] innermost before opened_is =
    let t = top_is opened_is in
    ([], t.0, t.1, subst (λ (ls : List Line). IsContents most_open ls t.0 t.1) (sym (append-nil before)) t.3)
open_begins (parent ∷ outer) innermost before opened_is =
    let end : Line = (0, ends innermost.heading.name) in
    let rest = open_begins outer (with_element parent (closed innermost)) (before ++ (end ∷ [])) (ends_open 0 innermost.heading.name opened_is refl) in
    (end ∷ rest.0, rest.1, rest.2, subst (λ (ls : List Line). IsContents most_open ls rest.1 rest.2) (append_assoc before (end ∷ []) rest.0) rest.3)

-- ---- a line that isn't taken

one_step : (before : List Line) (line : ℕ) (form : LineForm) (s : Stack) (r : Result Stack ConfFault) → steps before start ≡ Ok s → step line form s ≡ r → steps (before ++ ((line, form) ∷ [])) start ≡ (r >>= λ t. steps [] t)
one_step before line form s r taken e = steps_after before ((line, form) ∷ []) start s taken ∙ ap (λ (x : Result Stack ConfFault). x >>= λ t. steps [] t) e

stops : (before : List Line) (line : ℕ) (form : LineForm) (s : Stack) (f : ConfFault) → steps before start ≡ Ok s → step line form s ≡ Err f → Begin (before ++ ((line, form) ∷ [])) → ⊥
stops before line form s f taken e begun =
    let all = begun_taken (before ++ ((line, form) ∷ [])) begun in
    no_ok f all.0 (sym (one_step before line form s (Err f) taken e) ∙ all.1)

pub steps_fault : (lines before : List Line) (s : Stack) (f : ConfFault) → IsOpen before s.innermost s.outer → steps lines s ≡ Err f → BreaksAt (before ++ lines) f.kind f.line
steps_fault [] before s f opened_is e = absurd (no_err _ _ e)
steps_fault (line ∷ lines) before s f opened_is e =
    elim (bind_err (step line.0 line.1 s) (λ u. steps lines u) f e) [
      | inl now ↦
          let b = step_fault line.0 line.1 s f now in
          record {
            before = before;
            form = line.1;
            after = lines;
            parts = ap (λ (n : ℕ). before ++ ((n, line.1) ∷ lines)) b.1;
            begins = open_begins s.outer s.innermost before opened_is;
            breaks = subst (λ (n : ℕ). Begin (before ++ ((n, line.1) ∷ [])) → ⊥) b.1 (stops before line.0 line.1 s f (open_read opened_is) now);
            fault = b.0;
          }
      | inr later ↦
          let found = steps_fault lines (before ++ (line ∷ [])) later.0 f (step_open line.0 line.1 before s later.0 opened_is later.1) later.2 in
          rw append_assoc at found
    ]

-- the fault of a form
fault_of : LineForm → FaultKind
fault_of bad_name = kinds.BadName
fault_of bad_quote = kinds.BadQuote
fault_of (ends name) = kinds.WrongEnd
fault_of _ = kinds.TooDeep

fault_is : (kind : FaultKind) (form : LineForm) → IsFaultOf kind form → kind ≡ fault_of form
unfolding fault_of
fault_is kinds.BadName bad_name h = refl
fault_is kinds.BadQuote bad_quote h = refl
fault_is kinds.WrongEnd (ends name) h = refl
fault_is kinds.TooDeep (opens name argument) h = refl
fault_is _ form h = absurd h

same_fault : (f : ConfFault) (kind : FaultKind) (line : ℕ) → f.kind ≡ kind → line ≡ f.line → ◌≡◌ {A = Result Stack ConfFault} (Err f) (faulty kind line)
same_fault f kind line k l = ap (λ (n : ℕ). faulty f.kind n) (sym l) ∙ ap (λ (x : FaultKind). faulty x line) k

breaks_step : (before : List Line) (line : ℕ) (form : LineForm) (kind : FaultKind) (s : Stack) (r : Result Stack ConfFault) → steps before start ≡ Ok s → step line form s ≡ r → (Begin (before ++ ((line, form) ∷ [])) → ⊥) → IsFaultOf kind form → r ≡ faulty kind line
breaks_step before line form kind s (Ok t) taken e breaks is =
    let all = before ++ ((line, form) ∷ []) in
    absurd (breaks (open_begins t.outer t.innermost all (steps_open all [] start t start_open (one_step before line form s (Ok t) taken e))))
breaks_step before line form kind s (Err f) taken e breaks is =
    let h = step_fault line form s f e in
    same_fault f kind line (fault_is f.kind form h.0 ∙ sym (fault_is kind form is)) h.1

-- a line that breaks the grammar isn't taken
pub breaks_stop : (all : List Line) (kind : FaultKind) (line : ℕ) → BreaksAt all kind line → steps all start ≡ faulty kind line
breaks_stop all kind line b =
    let taken = begun_taken b.before b.begins in
    let stopped : step line b.form taken.0 ≡ faulty kind line = breaks_step b.before line b.form kind taken.0 (step line b.form taken.0) taken.1 refl b.breaks b.fault in
    ap (λ (ls : List Line). steps ls start) b.parts
    ∙ steps_after b.before ((line, b.form) ∷ b.after) start taken.0 taken.1
    ∙ ap (λ (r : Result Stack ConfFault). r >>= λ t. steps b.after t) stopped

-- ---- a section that is open at the end

-- with more room contents stay contents
contents_wider : {room : ℕ} {lines : List Line} {settings : List Setting} {elements : List Tree} → IsContents room lines settings elements → (more : ℕ) → room ≤ more → IsContents more lines settings elements
contents_wider nothing more h = nothing
contents_wider (passed rest) more h = passed (contents_wider rest more h)
contents_wider (set rest) more h = set (contents_wider rest more h)
contents_wider (section end within_is rest) zero h = absurd (omega arith)
contents_wider (section end within_is rest) (suc more) h = section end (contents_wider within_is more (omega arith)) (contents_wider rest (suc more) h)

pub open_ends : {all : List Line} {innermost parent : Frame} {outer : List Frame} → IsOpen all innermost (parent ∷ outer) → EndsOpen all innermost.heading.line
open_ends (inside {before} {within = content} {parent} {outer} {room} {line} {name} {argument} {settings} {elements} around fits contents) =
    let all = before ++ ((line, opens name argument) ∷ content) in
    let now : IsOpen all (frame (headed name argument line) settings elements) (parent ∷ outer) = inside around fits contents in
    (open_begins (parent ∷ outer) (frame (headed name argument line) settings elements) all now, before, content, name, argument, settings, elements, refl, contents_wider contents most_open (omega arith))

opened_only : (line : ℕ) (name argument : List ℕ) (s t : Stack) → open_one line name argument s ≡ Ok t → t ≡ stack (frame (headed name argument line) [] []) (s.innermost ∷ s.outer)
unfolding open_one
opened_only line name argument s t e =
    let c = chosen_ok (ltb (length s.outer) most_open) (stack (frame (headed name argument line) [] []) (s.innermost ∷ s.outer)) t _ e in
    sym c.1

-- contents that are taken stand in the innermost frame
contents_kept : {room : ℕ} {lines : List Line} {settings : List Setting} {elements : List Tree} → IsContents room lines settings elements → (s t : Stack) → steps lines s ≡ Ok t → t ≡ extended s settings elements
contents_kept nothing s t e = sym (ok_is s t e) ∙ sym (extended-none s)
contents_kept (passed rest) s t e = contents_kept rest s t e
contents_kept (set {line} {name} {value} {settings} {elements} rest) s t e =
    contents_kept rest (stack (with_setting s.innermost (set_to name value line)) s.outer) t e ∙ extended-setting s (set_to name value line) settings elements
contents_kept (section {room} {line} {name} {argument} {inside} {rest = behind} {within} {settings} {children} {elements} end within_is rest) s t e =
    let heading = headed name argument line in
    let below = stack (frame heading [] []) (s.innermost ∷ s.outer) in
    let whole = stack (with_element s.innermost (tree heading within (trees children))) s.outer in
    let ahead : List Line = (end, ends name) ∷ behind in
    let opening = bind_ok (open_one line name argument s) (λ u. steps (inside ++ ahead) u) t e in
    let is_below : opening.0 ≡ below = opened_only line name argument s opening.0 opening.1 in
    let all : steps (inside ++ ahead) below ≡ Ok t = subst (λ (u : Stack). steps (inside ++ ahead) u ≡ Ok t) is_below opening.2 in
    let content = bind_ok (steps inside below) (λ u. steps ahead u) t (sym (steps-append inside ahead below) ∙ all) in
    let is_read : content.0 ≡ extended below within children = contents_kept within_is below content.0 content.1 in
    let closing : steps ahead (extended below within children) ≡ Ok t = subst (λ (u : Stack). steps ahead u ≡ Ok t) is_read content.2 in
    let ending : close_one end name (extended below within children) ≡ Ok whole = ended end name (frame heading within children) s.innermost s.outer refl in
    let others : steps behind whole ≡ Ok t = sym (ap (λ (r : Result Stack ConfFault). r >>= λ u. steps behind u) ending) ∙ closing in
    contents_kept rest whole t others ∙ extended-element s (tree heading within (trees children)) settings elements

pub ends_taken : (all : List Line) (line : ℕ) → EndsOpen all line → (s : Stack) × (steps all start ≡ Ok s) × (end_in s.innermost s.outer ≡ faulty kinds.OpenSection line)
ends_taken all line (begins, before, content, name, argument, settings, elements, all_are, contents) =
    let taken = begun_taken all begins in
    let ahead : List Line = (line, opens name argument) ∷ content in
    let whole : steps (before ++ ahead) start ≡ Ok taken.0 = ap (λ (ls : List Line). steps ls start) (sym all_are) ∙ taken.1 in
    let front = bind_ok (steps before start) (λ u. steps ahead u) taken.0 (sym (steps-append before ahead start) ∙ whole) in
    let opening = bind_ok (open_one line name argument front.0) (λ u. steps content u) taken.0 front.2 in
    let is_open = opened_only line name argument front.0 opening.0 opening.1 in
    let kept = contents_kept contents opening.0 taken.0 opening.2 ∙ ap (λ (u : Stack). extended u settings elements) is_open in
    (taken.0, taken.1, ap (λ (s : Stack). end_in s.innermost s.outer) kept)
