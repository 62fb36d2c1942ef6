-- That elements describe one source and one output.
use Rattle.std.proofs.Common.{◌≡◌, ◌≢◌, ◌∙◌, ℕ, false, Option, Some, None, List, [], ◌∷◌, codes, map, filter, option_map, refl, sym, ap, arith}
use Rattle.std.specs.List.{AllZip}
use Rattle.conf_text.specs.Trees.{Setting, Tree}
use Rattle.relay_conf.specs.BufferSection.{IsBufferOf}
use Rattle.relay_conf.specs.Described.{IsSecurityIn, IsSourceOf, IsServerOf, IsForwardOf, IsFileOf, IsOutputOf}
use Rattle.relay_conf.specs.Elements.{settings_of, children_of, is_named, last_child}
use Rattle.relay_conf.specs.Meaning.{kind_of, is_buffered}
use Rattle.relay_conf.specs.declared.buffer.BufferSettings.{BufferSettings}
use Rattle.relay_conf.specs.declared.form.OutputType.{OutputType}
use Rattle.relay_conf.specs.declared.form.OutputType.TheVariants as outputs
use Rattle.relay_conf.specs.declared.output.ForwardSettings.{ForwardSettings}
use Rattle.relay_conf.specs.declared.output.FileSettings.{FileSettings}
use Rattle.relay_conf.specs.declared.output.Server.{Server}
use Rattle.relay_conf.specs.declared.output.Output.{Output}
use Rattle.relay_conf.specs.declared.output.Output.TheVariants as output
use Rattle.relay_conf.specs.declared.relay.Security.{Security}
use Rattle.relay_conf.specs.declared.relay.Source.{Source}
use Rattle.plan_lines.specs.Meanings.{to_nowhere, to_scope, to_relays, to_sink, security_view, source_view, server_view, buffer_view, forward_view, file_view, output_view}

-- what is the same of each pair is the same of all
pub same_all : {P X Y Z : Type 0} (R : P → X → Type 0) (S : P → Y → Type 0) (f : X → Z) (g : Y → Z) → ((p : P) (x : X) (y : Y) → R p x → S p y → f x ≡ g y)
    → (ps : List P) (xs : List X) (ys : List Y) → AllZip R ps xs → AllZip S ps ys → map f xs ≡ map g ys
same_all R S f g same [] [] [] h k = refl
same_all R S f g same [] [] (y ∷ ys) h k = absurd k
same_all R S f g same [] (x ∷ xs) ys h k = absurd h
same_all R S f g same (p ∷ ps) [] ys h k = absurd h
same_all R S f g same (p ∷ ps) (x ∷ xs) [] h k = absurd k
same_all R S f g same (p ∷ ps) (x ∷ xs) (y ∷ ys) h k =
    ap (λ z. z ∷ map f xs) (same p x y h.0 k.0) ∙ ap (λ zs. g y ∷ zs) (same_all R S f g same ps xs ys h.1 k.1)

-- a number for each type: outputs that lead nowhere have one
abbrev type_number : Option OutputType → ℕ
type_number (Some outputs.Forward) = 1
type_number (Some outputs.File) = 2
type_number (Some outputs.Relabel) = 3
type_number _ = 0

leads_nowhere : (kind : Option OutputType) → is_buffered kind ≡ false → kind ≢ Some outputs.Relabel → type_number kind ≡ 0
leads_nowhere None h k = refl
leads_nowhere (Some outputs.Forward) h k = absurd (cc h)
leads_nowhere (Some outputs.File) h k = absurd (cc h)
leads_nowhere (Some outputs.Copy) h k = refl
leads_nowhere (Some outputs.Relabel) h k = absurd (k refl)
leads_nowhere (Some outputs.Null) h k = refl

module _ {A : Type 0} where
  -- the number of the type that an output has
  abbrev own_number : Output A → ℕ
  own_number (output.Null line) = 0
  own_number (output.Forward settings line) = 1
  own_number (output.File settings line) = 2
  own_number (output.Relabel target line) = 3

  of_its_type : (elements : List Tree) (n : ℕ) (t : Tree) (o : Output A) → IsOutputOf elements n t o → type_number (kind_of (settings_of t)) ≡ own_number o
  of_its_type elements n t (output.Null line) h = leads_nowhere (kind_of (settings_of t)) h.0 h.1
  of_its_type elements n t (output.Relabel target line) h = ap type_number h.0
  of_its_type elements n t (output.Forward settings line) h = ap type_number h.0
  of_its_type elements n t (output.File settings line) h = ap type_number h.0

module _ {A B : Type 0} where
  same_security : (t : Option Tree) (x : Option (Security A)) (y : Option (Security B)) → IsSecurityIn t x → IsSecurityIn t y → option_map security_view x ≡ option_map security_view y
  same_security None x y h k = rw (h, k) refl
  same_security (Some t) None y h k = absurd h
  same_security (Some t) (Some x) None h k = absurd k
  same_security (Some t) (Some x) (Some y) h k =
      let self_hostname = h.self_hostname ∙ sym k.self_hostname in
      let shared_key = h.shared_key ∙ sym k.shared_key in
      λ i. Some (record { self_hostname = self_hostname i; shared_key = shared_key i })

  pub same_source : (elements : List Tree) (t : Tree) (x : Source A) (y : Source B) → IsSourceOf elements t x → IsSourceOf elements t y → source_view x ≡ source_view y
  same_source elements t x y h k =
      let port = h.port ∙ sym k.port in
      let bind = h.bind ∙ sym k.bind in
      let label = h.label ∙ sym k.label in
      let prefix = h.prefix ∙ sym k.prefix in
      let security = same_security (last_child (codes "security") (children_of t)) x.security y.security h.security k.security in
      let line = h.line ∙ sym k.line in
      λ i. record { port = port i; bind = bind i; label = label i; prefix = prefix i; security = security i; line = line i }

  same_server : (t : Tree) (x : Server A) (y : Server B) → IsServerOf t x → IsServerOf t y → server_view x ≡ server_view y
  same_server t x y h k =
      let host = h.host ∙ sym k.host in
      let port = h.port ∙ sym k.port in
      let line = h.line ∙ sym k.line in
      λ i. record { host = host i; port = port i; line = line i }

  same_buffer : (settings : List Setting) (x : BufferSettings A) (y : BufferSettings B) → IsBufferOf settings x → IsBufferOf settings y → buffer_view x ≡ buffer_view y
  same_buffer settings x y h k =
      let path = h.kind ∙ sym k.kind in
      let flush_mode = h.flush_mode ∙ sym k.flush_mode in
      let flush_interval = h.flush_interval ∙ sym k.flush_interval in
      let flush_thread_count = h.flush_thread_count ∙ sym k.flush_thread_count in
      let retry = h.retry ∙ sym k.retry in
      let overflow_action = h.overflow_action ∙ sym k.overflow_action in
      let chunk_limit_size = h.chunk_limit_size ∙ sym k.chunk_limit_size in
      let total_limit_size = h.total_limit_size ∙ sym k.total_limit_size in
      λ i. record {
        path = path i;
        flush_mode = flush_mode i;
        flush_interval = flush_interval i;
        flush_thread_count = flush_thread_count i;
        retry = retry i;
        overflow_action = overflow_action i;
        chunk_limit_size = chunk_limit_size i;
        total_limit_size = total_limit_size i;
      }

  same_forward : (n : ℕ) (t : Tree) (x : ForwardSettings A) (y : ForwardSettings B) → IsForwardOf n t x → IsForwardOf n t y → forward_view x ≡ forward_view y
  same_forward n t x y h k =
      let servers = same_all _ _ server_view server_view same_server (filter (is_named (codes "server")) (children_of t)) x.servers.items y.servers.items h.servers k.servers in
      let require_ack_response = h.require_ack_response ∙ sym k.require_ack_response in
      let ack_response_timeout = h.ack_response_timeout ∙ sym k.ack_response_timeout in
      let security = same_security (last_child (codes "security") (children_of t)) x.security y.security h.security k.security in
      let buffer = same_buffer _ x.buffer y.buffer h.buffer k.buffer in
      let number = h.number ∙ sym k.number in
      λ i. record {
        servers = servers i;
        require_ack_response = require_ack_response i;
        ack_response_timeout = ack_response_timeout i;
        security = security i;
        buffer = buffer i;
        number = number i;
      }

  same_file : (n : ℕ) (t : Tree) (x : FileSettings A) (y : FileSettings B) → IsFileOf n t x → IsFileOf n t y → file_view x ≡ file_view y
  same_file n t x y h k =
      let path = h.path ∙ sym k.path in
      let buffer = same_buffer _ x.buffer y.buffer h.buffer k.buffer in
      let number = h.number ∙ sym k.number in
      λ i. record { path = path i; buffer = buffer i; number = number i }

  pub same_output : (elements : List Tree) (p : ℕ × Tree) (x : Output A) (y : Output B) → IsOutputOf elements p.0 p.1 x → IsOutputOf elements p.0 p.1 y → output_view x ≡ output_view y
  same_output elements p (output.Null a) (output.Null b) h k = ap to_nowhere (h.2 ∙ sym k.2)
  same_output elements p (output.Relabel x a) (output.Relabel y b) h k =
      let target = h.1 ∙ sym k.1 in
      let line = h.2 ∙ sym k.2 in
      λ i. to_scope (target i) (line i)
  same_output elements p (output.Forward x a) (output.Forward y b) h k =
      let settings = same_forward p.0 p.1 x y h.1 k.1 in
      let line = h.2 ∙ sym k.2 in
      λ i. to_relays (settings i) (line i)
  same_output elements p (output.File x a) (output.File y b) h k =
      let settings = same_file p.0 p.1 x y h.1 k.1 in
      let line = h.2 ∙ sym k.2 in
      λ i. to_sink (settings i) (line i)
  same_output elements p x y h k = absurd (omega (arith, of_its_type elements p.0 p.1 x h, of_its_type elements p.0 p.1 y k))
