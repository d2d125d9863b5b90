-- The environments that settings name, and the global names of each.
use Rattle.std.specs.Prelude.{ℕ, Bool, true, false, cond, ◌&&◌, ◌||◌, List, Option, Some, None}
use Rattle.language.specs.Vocabulary.{is}
use Rattle.rules.specs.declared.environment.Environment.{Environment}
use Rattle.rules.specs.declared.environment.Environment.TheVariants.{Browser, Node, CommonJs, Worker, Es2022, Mocha, Jest}
use Rattle.rules.specs.declared.environment.Environments.{Environments}
use Rattle.rules.specs.EnvironmentNames.{is_commonjs_name, is_device_interface, is_document_interface, is_es2022_name, is_event_handler, is_html_interface, is_jest_name, is_mocha_name, is_node_name, is_shared_interface, is_shared_member, is_svg_interface, is_window_member, is_worker_member}

abbrev pub environment_of : List ℕ → Option Environment
environment_of text =
    cond (is text "browser") (Some Browser)
    (cond (is text "node") (Some Node)
    (cond (is text "commonjs") (Some CommonJs)
    (cond (is text "worker") (Some Worker)
    (cond (is text "es2022") (Some Es2022)
    (cond (is text "mocha") (Some Mocha)
    (cond (is text "jest") (Some Jest) None))))))

abbrev pub no_environments : Environments
no_environments = record { browser = false; node = false; commonjs = false; worker = false; es2022 = false; mocha = false; jest = false }

abbrev pub with_environment : Environments → Environment → Environments
with_environment e Browser = record e { browser = true }
with_environment e Node = record e { node = true }
with_environment e CommonJs = record e { commonjs = true }
with_environment e Worker = record e { worker = true }
with_environment e Es2022 = record e { es2022 = true }
with_environment e Mocha = record e { mocha = true }
with_environment e Jest = record e { jest = true }

abbrev pub is_shared_name : List ℕ → Bool
is_shared_name text = is_shared_member text || is_shared_interface text

abbrev pub is_browser_name : List ℕ → Bool
is_browser_name text =
    is_window_member text || (is_shared_name text || (is_html_interface text || (is_document_interface text || (is_event_handler text || (is_svg_interface text || is_device_interface text)))))

abbrev pub is_worker_name : List ℕ → Bool
is_worker_name text = is_shared_name text || is_worker_member text

-- one of these has a global of this name
unfoldable pub has_name : Environments → List ℕ → Bool
has_name e text =
    (e.browser && is_browser_name text) || ((e.node && is_node_name text) || ((e.commonjs && is_commonjs_name text) || ((e.worker && is_worker_name text) || ((e.es2022 && is_es2022_name text) || ((e.mocha && is_mocha_name text)
    || (e.jest && is_jest_name text))))))
