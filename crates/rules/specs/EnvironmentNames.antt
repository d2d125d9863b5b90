-- Names that scripts have in each environment, in groups; each group is in the order of its bytes.
use Rattle.std.specs.Prelude.{ℕ, Bool, List, [], ◌∷◌}
use Rattle.language.specs.Vocabulary.{among}

-- The members that the global objects of windows and workers share (HTML, "WindowOrWorkerGlobalScope", "WorkerGlobalScope"; Fetch, IndexedDB, Web Cryptography, Console)
unfoldable pub is_shared_member : List ℕ → Bool
is_shared_member text = among text ("addEventListener" ∷ "atob" ∷ "btoa" ∷ "caches" ∷ "cancelAnimationFrame" ∷ "clearInterval" ∷ "clearTimeout" ∷ "close" ∷ "console" ∷ "createImageBitmap" ∷ "crossOriginIsolated" ∷ "crypto" ∷ "dispatchEvent" ∷ "fetch" ∷ "indexedDB" ∷ "isSecureContext" ∷ "location" ∷ "name" ∷ "navigator" ∷ "onerror" ∷ "onlanguagechange" ∷ "onmessage" ∷ "onmessageerror" ∷ "onoffline" ∷ "ononline" ∷ "onrejectionhandled" ∷ "onunhandledrejection" ∷ "origin" ∷ "performance" ∷ "postMessage" ∷ "queueMicrotask" ∷ "removeEventListener" ∷ "reportError" ∷ "requestAnimationFrame" ∷ "scheduler" ∷ "self" ∷ "setInterval" ∷ "setTimeout" ∷ "structuredClone" ∷ "trustedTypes" ∷ [])

-- The interfaces that windows and workers both have (DOM, HTML, Fetch, URL, Encoding, Streams, XMLHttpRequest, IndexedDB, Service Workers, WebGL; ECMA-402; WebAssembly)
unfoldable pub is_shared_interface : List ℕ → Bool
is_shared_interface text = among text ("AbortController" ∷ "AbortSignal" ∷ "Blob" ∷ "BroadcastChannel" ∷ "ByteLengthQueuingStrategy" ∷ "Cache" ∷ "CacheStorage" ∷ "CanvasGradient" ∷ "CanvasPattern" ∷ "CloseEvent" ∷ "CompressionStream" ∷ "CountQueuingStrategy" ∷ "Crypto" ∷ "CryptoKey" ∷ "CustomEvent" ∷ "DOMException" ∷ "DOMMatrix" ∷ "DOMMatrixReadOnly" ∷ "DOMPoint" ∷ "DOMPointReadOnly" ∷ "DOMQuad" ∷ "DOMRect" ∷ "DOMRectReadOnly" ∷ "DOMStringList" ∷ "DecompressionStream" ∷ "ErrorEvent" ∷ "Event" ∷ "EventSource" ∷ "EventTarget" ∷ "File" ∷ "FileList" ∷ "FileReader" ∷ "FileSystemDirectoryHandle" ∷ "FileSystemFileHandle" ∷ "FileSystemHandle" ∷ "FileSystemWritableFileStream" ∷ "FontFace" ∷ "FontFaceSet" ∷ "FontFaceSetLoadEvent" ∷ "FormData" ∷ "Headers" ∷ "IDBCursor" ∷ "IDBCursorWithValue" ∷ "IDBDatabase" ∷ "IDBFactory" ∷ "IDBIndex" ∷ "IDBKeyRange" ∷ "IDBObjectStore" ∷ "IDBOpenDBRequest" ∷ "IDBRequest" ∷ "IDBTransaction" ∷ "IDBVersionChangeEvent" ∷ "ImageBitmap" ∷ "ImageBitmapRenderingContext" ∷ "ImageData" ∷ "Intl" ∷ "Lock" ∷ "LockManager" ∷ "MessageChannel" ∷ "MessageEvent" ∷ "MessagePort" ∷ "NavigationPreloadManager" ∷ "NetworkInformation" ∷ "Notification" ∷ "OffscreenCanvas" ∷ "OffscreenCanvasRenderingContext2D" ∷ "Path2D" ∷ "Performance" ∷ "PerformanceEntry" ∷ "PerformanceMark" ∷ "PerformanceMeasure" ∷ "PerformanceObserver" ∷ "PerformanceObserverEntryList" ∷ "PerformanceResourceTiming" ∷ "PerformanceServerTiming" ∷ "PermissionStatus" ∷ "Permissions" ∷ "ProgressEvent" ∷ "PromiseRejectionEvent" ∷ "PushManager" ∷ "PushSubscription" ∷ "PushSubscriptionOptions" ∷ "ReadableByteStreamController" ∷ "ReadableStream" ∷ "ReadableStreamBYOBReader" ∷ "ReadableStreamBYOBRequest" ∷ "ReadableStreamDefaultController" ∷ "ReadableStreamDefaultReader" ∷ "ReportingObserver" ∷ "Request" ∷ "Response" ∷ "SecurityPolicyViolationEvent" ∷ "ServiceWorker" ∷ "ServiceWorkerContainer" ∷ "ServiceWorkerRegistration" ∷ "StorageManager" ∷ "SubtleCrypto" ∷ "TextDecoder" ∷ "TextDecoderStream" ∷ "TextEncoder" ∷ "TextEncoderStream" ∷ "TextMetrics" ∷ "TransformStream" ∷ "TransformStreamDefaultController" ∷ "URL" ∷ "URLPattern" ∷ "URLSearchParams" ∷ "WebAssembly" ∷ "WebGL2RenderingContext" ∷ "WebGLActiveInfo" ∷ "WebGLBuffer" ∷ "WebGLContextEvent" ∷ "WebGLFramebuffer" ∷ "WebGLProgram" ∷ "WebGLQuery" ∷ "WebGLRenderbuffer" ∷ "WebGLRenderingContext" ∷ "WebGLSampler" ∷ "WebGLShader" ∷ "WebGLShaderPrecisionFormat" ∷ "WebGLSync" ∷ "WebGLTexture" ∷ "WebGLTransformFeedback" ∷ "WebGLUniformLocation" ∷ "WebGLVertexArrayObject" ∷ "WebSocket" ∷ "Worker" ∷ "WritableStream" ∷ "WritableStreamDefaultController" ∷ "WritableStreamDefaultWriter" ∷ "XMLHttpRequest" ∷ "XMLHttpRequestEventTarget" ∷ "XMLHttpRequestUpload" ∷ [])

-- The other members of `Window` (HTML 7.2.2, CSSOM View, Selection API, `requestIdleCallback`)
unfoldable pub is_window_member : List ℕ → Bool
is_window_member text = among text ("alert" ∷ "blur" ∷ "cancelIdleCallback" ∷ "captureEvents" ∷ "clientInformation" ∷ "closed" ∷ "confirm" ∷ "customElements" ∷ "devicePixelRatio" ∷ "document" ∷ "event" ∷ "external" ∷ "focus" ∷ "frameElement" ∷ "frames" ∷ "getComputedStyle" ∷ "getSelection" ∷ "history" ∷ "innerHeight" ∷ "innerWidth" ∷ "length" ∷ "localStorage" ∷ "locationbar" ∷ "matchMedia" ∷ "menubar" ∷ "moveBy" ∷ "moveTo" ∷ "navigation" ∷ "open" ∷ "opener" ∷ "originAgentCluster" ∷ "outerHeight" ∷ "outerWidth" ∷ "pageXOffset" ∷ "pageYOffset" ∷ "parent" ∷ "personalbar" ∷ "print" ∷ "prompt" ∷ "releaseEvents" ∷ "requestIdleCallback" ∷ "resizeBy" ∷ "resizeTo" ∷ "screen" ∷ "screenLeft" ∷ "screenTop" ∷ "screenX" ∷ "screenY" ∷ "scroll" ∷ "scrollBy" ∷ "scrollTo" ∷ "scrollX" ∷ "scrollY" ∷ "scrollbars" ∷ "sessionStorage" ∷ "speechSynthesis" ∷ "status" ∷ "statusbar" ∷ "stop" ∷ "toolbar" ∷ "top" ∷ "visualViewport" ∷ "window" ∷ [])

-- The event handlers of `Window` (HTML 8.1.8.2, Pointer Events, Touch Events, CSS Animations, CSS Transitions, Device Orientation)
unfoldable pub is_event_handler : List ℕ → Bool
is_event_handler text = among text ("onabort" ∷ "onafterprint" ∷ "onanimationcancel" ∷ "onanimationend" ∷ "onanimationiteration" ∷ "onanimationstart" ∷ "onauxclick" ∷ "onbeforeinput" ∷ "onbeforematch" ∷ "onbeforeprint" ∷ "onbeforetoggle" ∷ "onbeforeunload" ∷ "onblur" ∷ "oncancel" ∷ "oncanplay" ∷ "oncanplaythrough" ∷ "onchange" ∷ "onclick" ∷ "onclose" ∷ "oncontextlost" ∷ "oncontextmenu" ∷ "oncontextrestored" ∷ "oncopy" ∷ "oncuechange" ∷ "oncut" ∷ "ondblclick" ∷ "ondevicemotion" ∷ "ondeviceorientation" ∷ "ondeviceorientationabsolute" ∷ "ondrag" ∷ "ondragend" ∷ "ondragenter" ∷ "ondragleave" ∷ "ondragover" ∷ "ondragstart" ∷ "ondrop" ∷ "ondurationchange" ∷ "onemptied" ∷ "onended" ∷ "onfocus" ∷ "onformdata" ∷ "ongamepadconnected" ∷ "ongamepaddisconnected" ∷ "ongotpointercapture" ∷ "onhashchange" ∷ "oninput" ∷ "oninvalid" ∷ "onkeydown" ∷ "onkeypress" ∷ "onkeyup" ∷ "onload" ∷ "onloadeddata" ∷ "onloadedmetadata" ∷ "onloadstart" ∷ "onlostpointercapture" ∷ "onmousedown" ∷ "onmouseenter" ∷ "onmouseleave" ∷ "onmousemove" ∷ "onmouseout" ∷ "onmouseover" ∷ "onmouseup" ∷ "onpagehide" ∷ "onpagereveal" ∷ "onpageshow" ∷ "onpageswap" ∷ "onpaste" ∷ "onpause" ∷ "onplay" ∷ "onplaying" ∷ "onpointercancel" ∷ "onpointerdown" ∷ "onpointerenter" ∷ "onpointerleave" ∷ "onpointermove" ∷ "onpointerout" ∷ "onpointerover" ∷ "onpointerrawupdate" ∷ "onpointerup" ∷ "onpopstate" ∷ "onprogress" ∷ "onratechange" ∷ "onreset" ∷ "onresize" ∷ "onscroll" ∷ "onscrollend" ∷ "onsecuritypolicyviolation" ∷ "onseeked" ∷ "onseeking" ∷ "onselect" ∷ "onselectionchange" ∷ "onselectstart" ∷ "onslotchange" ∷ "onstalled" ∷ "onstorage" ∷ "onsubmit" ∷ "onsuspend" ∷ "ontimeupdate" ∷ "ontoggle" ∷ "ontouchcancel" ∷ "ontouchend" ∷ "ontouchmove" ∷ "ontouchstart" ∷ "ontransitioncancel" ∷ "ontransitionend" ∷ "ontransitionrun" ∷ "ontransitionstart" ∷ "onunload" ∷ "onvolumechange" ∷ "onwaiting" ∷ "onwheel" ∷ [])

-- The interfaces of the HTML standard that windows alone have
unfoldable pub is_html_interface : List ℕ → Bool
is_html_interface text = among text ("Audio" ∷ "BarProp" ∷ "BeforeUnloadEvent" ∷ "CanvasRenderingContext2D" ∷ "CustomElementRegistry" ∷ "CustomStateSet" ∷ "DOMParser" ∷ "DOMStringMap" ∷ "DataTransfer" ∷ "DataTransferItem" ∷ "DataTransferItemList" ∷ "DragEvent" ∷ "ElementInternals" ∷ "External" ∷ "FormDataEvent" ∷ "HTMLAllCollection" ∷ "HTMLAnchorElement" ∷ "HTMLAreaElement" ∷ "HTMLAudioElement" ∷ "HTMLBRElement" ∷ "HTMLBaseElement" ∷ "HTMLBodyElement" ∷ "HTMLButtonElement" ∷ "HTMLCanvasElement" ∷ "HTMLCollection" ∷ "HTMLDListElement" ∷ "HTMLDataElement" ∷ "HTMLDataListElement" ∷ "HTMLDetailsElement" ∷ "HTMLDialogElement" ∷ "HTMLDirectoryElement" ∷ "HTMLDivElement" ∷ "HTMLDocument" ∷ "HTMLElement" ∷ "HTMLEmbedElement" ∷ "HTMLFieldSetElement" ∷ "HTMLFontElement" ∷ "HTMLFormControlsCollection" ∷ "HTMLFormElement" ∷ "HTMLFrameElement" ∷ "HTMLFrameSetElement" ∷ "HTMLHRElement" ∷ "HTMLHeadElement" ∷ "HTMLHeadingElement" ∷ "HTMLHtmlElement" ∷ "HTMLIFrameElement" ∷ "HTMLImageElement" ∷ "HTMLInputElement" ∷ "HTMLLIElement" ∷ "HTMLLabelElement" ∷ "HTMLLegendElement" ∷ "HTMLLinkElement" ∷ "HTMLMapElement" ∷ "HTMLMarqueeElement" ∷ "HTMLMediaElement" ∷ "HTMLMenuElement" ∷ "HTMLMetaElement" ∷ "HTMLMeterElement" ∷ "HTMLModElement" ∷ "HTMLOListElement" ∷ "HTMLObjectElement" ∷ "HTMLOptGroupElement" ∷ "HTMLOptionElement" ∷ "HTMLOptionsCollection" ∷ "HTMLOutputElement" ∷ "HTMLParagraphElement" ∷ "HTMLParamElement" ∷ "HTMLPictureElement" ∷ "HTMLPreElement" ∷ "HTMLProgressElement" ∷ "HTMLQuoteElement" ∷ "HTMLScriptElement" ∷ "HTMLSelectElement" ∷ "HTMLSlotElement" ∷ "HTMLSourceElement" ∷ "HTMLSpanElement" ∷ "HTMLStyleElement" ∷ "HTMLTableCaptionElement" ∷ "HTMLTableCellElement" ∷ "HTMLTableColElement" ∷ "HTMLTableElement" ∷ "HTMLTableRowElement" ∷ "HTMLTableSectionElement" ∷ "HTMLTemplateElement" ∷ "HTMLTextAreaElement" ∷ "HTMLTimeElement" ∷ "HTMLTitleElement" ∷ "HTMLTrackElement" ∷ "HTMLUListElement" ∷ "HTMLUnknownElement" ∷ "HTMLVideoElement" ∷ "HashChangeEvent" ∷ "History" ∷ "Image" ∷ "Location" ∷ "MediaError" ∷ "MimeType" ∷ "MimeTypeArray" ∷ "NavigateEvent" ∷ "Navigation" ∷ "NavigationActivation" ∷ "NavigationCurrentEntryChangeEvent" ∷ "NavigationDestination" ∷ "NavigationHistoryEntry" ∷ "NavigationTransition" ∷ "Navigator" ∷ "Option" ∷ "PageRevealEvent" ∷ "PageSwapEvent" ∷ "PageTransitionEvent" ∷ "Plugin" ∷ "PluginArray" ∷ "PopStateEvent" ∷ "RadioNodeList" ∷ "SharedWorker" ∷ "Storage" ∷ "StorageEvent" ∷ "SubmitEvent" ∷ "TextTrack" ∷ "TextTrackCue" ∷ "TextTrackCueList" ∷ "TextTrackList" ∷ "TimeRanges" ∷ "ToggleEvent" ∷ "TrackEvent" ∷ "UserActivation" ∷ "ValidityState" ∷ "VisibilityStateEntry" ∷ "Window" ∷ "XMLSerializer" ∷ [])

-- The interfaces of documents, their events and their styles (DOM, UI Events, Clipboard, CSSOM, CSS Typed OM, Web Animations, observers, performance)
unfoldable pub is_document_interface : List ℕ → Bool
is_document_interface text = among text ("AbstractRange" ∷ "Animation" ∷ "AnimationEffect" ∷ "AnimationEvent" ∷ "AnimationPlaybackEvent" ∷ "AnimationTimeline" ∷ "Attr" ∷ "CDATASection" ∷ "CSS" ∷ "CSSAnimation" ∷ "CSSConditionRule" ∷ "CSSContainerRule" ∷ "CSSCounterStyleRule" ∷ "CSSFontFaceRule" ∷ "CSSFontFeatureValuesRule" ∷ "CSSFontPaletteValuesRule" ∷ "CSSGroupingRule" ∷ "CSSImageValue" ∷ "CSSImportRule" ∷ "CSSKeyframeRule" ∷ "CSSKeyframesRule" ∷ "CSSKeywordValue" ∷ "CSSLayerBlockRule" ∷ "CSSLayerStatementRule" ∷ "CSSMarginRule" ∷ "CSSMathClamp" ∷ "CSSMathInvert" ∷ "CSSMathMax" ∷ "CSSMathMin" ∷ "CSSMathNegate" ∷ "CSSMathProduct" ∷ "CSSMathSum" ∷ "CSSMathValue" ∷ "CSSMatrixComponent" ∷ "CSSMediaRule" ∷ "CSSNamespaceRule" ∷ "CSSNumericArray" ∷ "CSSNumericValue" ∷ "CSSPageRule" ∷ "CSSPerspective" ∷ "CSSPropertyRule" ∷ "CSSRotate" ∷ "CSSRule" ∷ "CSSRuleList" ∷ "CSSScale" ∷ "CSSSkew" ∷ "CSSSkewX" ∷ "CSSSkewY" ∷ "CSSStyleDeclaration" ∷ "CSSStyleRule" ∷ "CSSStyleSheet" ∷ "CSSStyleValue" ∷ "CSSSupportsRule" ∷ "CSSTransformComponent" ∷ "CSSTransformValue" ∷ "CSSTransition" ∷ "CSSTranslate" ∷ "CSSUnitValue" ∷ "CSSUnparsedValue" ∷ "CSSVariableReferenceValue" ∷ "CaretPosition" ∷ "CharacterData" ∷ "Clipboard" ∷ "ClipboardEvent" ∷ "ClipboardItem" ∷ "Comment" ∷ "CompositionEvent" ∷ "DOMImplementation" ∷ "DOMRectList" ∷ "DOMTokenList" ∷ "Document" ∷ "DocumentFragment" ∷ "DocumentTimeline" ∷ "DocumentType" ∷ "Element" ∷ "FocusEvent" ∷ "Highlight" ∷ "HighlightRegistry" ∷ "IdleDeadline" ∷ "InputEvent" ∷ "IntersectionObserver" ∷ "IntersectionObserverEntry" ∷ "KeyboardEvent" ∷ "KeyframeEffect" ∷ "MediaList" ∷ "MediaQueryList" ∷ "MediaQueryListEvent" ∷ "MouseEvent" ∷ "MutationEvent" ∷ "MutationObserver" ∷ "MutationRecord" ∷ "NamedNodeMap" ∷ "Node" ∷ "NodeFilter" ∷ "NodeIterator" ∷ "NodeList" ∷ "PerformanceEventTiming" ∷ "PerformanceLongTaskTiming" ∷ "PerformanceNavigation" ∷ "PerformanceNavigationTiming" ∷ "PerformancePaintTiming" ∷ "PerformanceTiming" ∷ "PointerEvent" ∷ "ProcessingInstruction" ∷ "Range" ∷ "ResizeObserver" ∷ "ResizeObserverEntry" ∷ "ResizeObserverSize" ∷ "Screen" ∷ "Selection" ∷ "ShadowRoot" ∷ "StaticRange" ∷ "StylePropertyMap" ∷ "StylePropertyMapReadOnly" ∷ "StyleSheet" ∷ "StyleSheetList" ∷ "TaskAttributionTiming" ∷ "Text" ∷ "TextEvent" ∷ "Touch" ∷ "TouchEvent" ∷ "TouchList" ∷ "TransitionEvent" ∷ "TreeWalker" ∷ "UIEvent" ∷ "VisualViewport" ∷ "WheelEvent" ∷ "XMLDocument" ∷ "XPathEvaluator" ∷ "XPathExpression" ∷ "XPathResult" ∷ "XSLTProcessor" ∷ [])

-- The interfaces of SVG 2, Filter Effects and SVG Animations
unfoldable pub is_svg_interface : List ℕ → Bool
is_svg_interface text = among text ("SVGAElement" ∷ "SVGAngle" ∷ "SVGAnimateElement" ∷ "SVGAnimateMotionElement" ∷ "SVGAnimateTransformElement" ∷ "SVGAnimatedAngle" ∷ "SVGAnimatedBoolean" ∷ "SVGAnimatedEnumeration" ∷ "SVGAnimatedInteger" ∷ "SVGAnimatedLength" ∷ "SVGAnimatedLengthList" ∷ "SVGAnimatedNumber" ∷ "SVGAnimatedNumberList" ∷ "SVGAnimatedPreserveAspectRatio" ∷ "SVGAnimatedRect" ∷ "SVGAnimatedString" ∷ "SVGAnimatedTransformList" ∷ "SVGAnimationElement" ∷ "SVGCircleElement" ∷ "SVGClipPathElement" ∷ "SVGComponentTransferFunctionElement" ∷ "SVGDefsElement" ∷ "SVGDescElement" ∷ "SVGDiscardElement" ∷ "SVGElement" ∷ "SVGEllipseElement" ∷ "SVGFEBlendElement" ∷ "SVGFEColorMatrixElement" ∷ "SVGFEComponentTransferElement" ∷ "SVGFECompositeElement" ∷ "SVGFEConvolveMatrixElement" ∷ "SVGFEDiffuseLightingElement" ∷ "SVGFEDisplacementMapElement" ∷ "SVGFEDistantLightElement" ∷ "SVGFEDropShadowElement" ∷ "SVGFEFloodElement" ∷ "SVGFEFuncAElement" ∷ "SVGFEFuncBElement" ∷ "SVGFEFuncGElement" ∷ "SVGFEFuncRElement" ∷ "SVGFEGaussianBlurElement" ∷ "SVGFEImageElement" ∷ "SVGFEMergeElement" ∷ "SVGFEMergeNodeElement" ∷ "SVGFEMorphologyElement" ∷ "SVGFEOffsetElement" ∷ "SVGFEPointLightElement" ∷ "SVGFESpecularLightingElement" ∷ "SVGFESpotLightElement" ∷ "SVGFETileElement" ∷ "SVGFETurbulenceElement" ∷ "SVGFilterElement" ∷ "SVGForeignObjectElement" ∷ "SVGGElement" ∷ "SVGGeometryElement" ∷ "SVGGradientElement" ∷ "SVGGraphicsElement" ∷ "SVGImageElement" ∷ "SVGLength" ∷ "SVGLengthList" ∷ "SVGLineElement" ∷ "SVGLinearGradientElement" ∷ "SVGMPathElement" ∷ "SVGMarkerElement" ∷ "SVGMaskElement" ∷ "SVGMatrix" ∷ "SVGMetadataElement" ∷ "SVGNumber" ∷ "SVGNumberList" ∷ "SVGPathElement" ∷ "SVGPatternElement" ∷ "SVGPoint" ∷ "SVGPointList" ∷ "SVGPolygonElement" ∷ "SVGPolylineElement" ∷ "SVGPreserveAspectRatio" ∷ "SVGRadialGradientElement" ∷ "SVGRect" ∷ "SVGRectElement" ∷ "SVGSVGElement" ∷ "SVGScriptElement" ∷ "SVGSetElement" ∷ "SVGStopElement" ∷ "SVGStringList" ∷ "SVGStyleElement" ∷ "SVGSwitchElement" ∷ "SVGSymbolElement" ∷ "SVGTSpanElement" ∷ "SVGTextContentElement" ∷ "SVGTextElement" ∷ "SVGTextPathElement" ∷ "SVGTextPositioningElement" ∷ "SVGTitleElement" ∷ "SVGTransform" ∷ "SVGTransformList" ∷ "SVGUnitTypes" ∷ "SVGUseElement" ∷ "SVGViewElement" ∷ [])

-- The interfaces of media and devices (Web Audio, Media Capture, Media Source, WebRTC, Gamepad, Web MIDI, Geolocation, Web Authentication, Payment Request, Presentation, Web Speech)
unfoldable pub is_device_interface : List ℕ → Bool
is_device_interface text = among text ("AnalyserNode" ∷ "AudioBuffer" ∷ "AudioBufferSourceNode" ∷ "AudioContext" ∷ "AudioDestinationNode" ∷ "AudioListener" ∷ "AudioNode" ∷ "AudioParam" ∷ "AudioParamMap" ∷ "AudioProcessingEvent" ∷ "AudioScheduledSourceNode" ∷ "AudioWorklet" ∷ "AudioWorkletNode" ∷ "AuthenticatorAssertionResponse" ∷ "AuthenticatorAttestationResponse" ∷ "AuthenticatorResponse" ∷ "BaseAudioContext" ∷ "BatteryManager" ∷ "BiquadFilterNode" ∷ "BlobEvent" ∷ "CanvasCaptureMediaStreamTrack" ∷ "ChannelMergerNode" ∷ "ChannelSplitterNode" ∷ "ConstantSourceNode" ∷ "ConvolverNode" ∷ "Credential" ∷ "CredentialsContainer" ∷ "DelayNode" ∷ "DeviceMotionEvent" ∷ "DeviceOrientationEvent" ∷ "DynamicsCompressorNode" ∷ "GainNode" ∷ "Gamepad" ∷ "GamepadButton" ∷ "GamepadEvent" ∷ "Geolocation" ∷ "GeolocationCoordinates" ∷ "GeolocationPosition" ∷ "GeolocationPositionError" ∷ "IIRFilterNode" ∷ "ImageCapture" ∷ "InputDeviceInfo" ∷ "MIDIAccess" ∷ "MIDIConnectionEvent" ∷ "MIDIInput" ∷ "MIDIInputMap" ∷ "MIDIMessageEvent" ∷ "MIDIOutput" ∷ "MIDIOutputMap" ∷ "MIDIPort" ∷ "MediaDeviceInfo" ∷ "MediaDevices" ∷ "MediaElementAudioSourceNode" ∷ "MediaEncryptedEvent" ∷ "MediaKeyMessageEvent" ∷ "MediaKeySession" ∷ "MediaKeyStatusMap" ∷ "MediaKeySystemAccess" ∷ "MediaKeys" ∷ "MediaMetadata" ∷ "MediaRecorder" ∷ "MediaSession" ∷ "MediaSource" ∷ "MediaStream" ∷ "MediaStreamAudioDestinationNode" ∷ "MediaStreamAudioSourceNode" ∷ "MediaStreamTrack" ∷ "MediaStreamTrackAudioSourceNode" ∷ "MediaStreamTrackEvent" ∷ "OfflineAudioCompletionEvent" ∷ "OfflineAudioContext" ∷ "OscillatorNode" ∷ "OverconstrainedError" ∷ "PannerNode" ∷ "PaymentMethodChangeEvent" ∷ "PaymentRequest" ∷ "PaymentRequestUpdateEvent" ∷ "PaymentResponse" ∷ "PeriodicWave" ∷ "PictureInPictureEvent" ∷ "PictureInPictureWindow" ∷ "Presentation" ∷ "PresentationAvailability" ∷ "PresentationConnection" ∷ "PresentationConnectionAvailableEvent" ∷ "PresentationConnectionCloseEvent" ∷ "PresentationConnectionList" ∷ "PresentationReceiver" ∷ "PresentationRequest" ∷ "PublicKeyCredential" ∷ "RTCCertificate" ∷ "RTCDTMFSender" ∷ "RTCDTMFToneChangeEvent" ∷ "RTCDataChannel" ∷ "RTCDataChannelEvent" ∷ "RTCDtlsTransport" ∷ "RTCError" ∷ "RTCErrorEvent" ∷ "RTCIceCandidate" ∷ "RTCIceTransport" ∷ "RTCPeerConnection" ∷ "RTCPeerConnectionIceErrorEvent" ∷ "RTCPeerConnectionIceEvent" ∷ "RTCRtpReceiver" ∷ "RTCRtpSender" ∷ "RTCRtpTransceiver" ∷ "RTCSctpTransport" ∷ "RTCSessionDescription" ∷ "RTCStatsReport" ∷ "RTCTrackEvent" ∷ "RemotePlayback" ∷ "ScreenOrientation" ∷ "ScriptProcessorNode" ∷ "SourceBuffer" ∷ "SourceBufferList" ∷ "SpeechSynthesis" ∷ "SpeechSynthesisErrorEvent" ∷ "SpeechSynthesisEvent" ∷ "SpeechSynthesisUtterance" ∷ "SpeechSynthesisVoice" ∷ "StereoPannerNode" ∷ "VTTCue" ∷ "VTTRegion" ∷ "WakeLock" ∷ "WakeLockSentinel" ∷ "WaveShaperNode" ∷ "Worklet" ∷ [])

-- What workers alone have (HTML 10, File API, File System)
unfoldable pub is_worker_member : List ℕ → Bool
is_worker_member text = among text ("DedicatedWorkerGlobalScope" ∷ "FileReaderSync" ∷ "FileSystemSyncAccessHandle" ∷ "SharedWorkerGlobalScope" ∷ "WorkerGlobalScope" ∷ "WorkerLocation" ∷ "WorkerNavigator" ∷ "importScripts" ∷ "onconnect" ∷ [])

-- Node's global objects (its documentation, "Global objects", version 22)
unfoldable pub is_node_name : List ℕ → Bool
is_node_name text = among text ("AbortController" ∷ "AbortSignal" ∷ "Blob" ∷ "BroadcastChannel" ∷ "Buffer" ∷ "ByteLengthQueuingStrategy" ∷ "CloseEvent" ∷ "CompressionStream" ∷ "CountQueuingStrategy" ∷ "Crypto" ∷ "CryptoKey" ∷ "CustomEvent" ∷ "DOMException" ∷ "DecompressionStream" ∷ "Event" ∷ "EventSource" ∷ "EventTarget" ∷ "File" ∷ "FormData" ∷ "Headers" ∷ "Intl" ∷ "MessageChannel" ∷ "MessageEvent" ∷ "MessagePort" ∷ "Navigator" ∷ "Performance" ∷ "PerformanceEntry" ∷ "PerformanceMark" ∷ "PerformanceMeasure" ∷ "PerformanceObserver" ∷ "PerformanceObserverEntryList" ∷ "PerformanceResourceTiming" ∷ "ReadableByteStreamController" ∷ "ReadableStream" ∷ "ReadableStreamBYOBReader" ∷ "ReadableStreamBYOBRequest" ∷ "ReadableStreamDefaultController" ∷ "ReadableStreamDefaultReader" ∷ "Request" ∷ "Response" ∷ "Storage" ∷ "SubtleCrypto" ∷ "TextDecoder" ∷ "TextDecoderStream" ∷ "TextEncoder" ∷ "TextEncoderStream" ∷ "TransformStream" ∷ "TransformStreamDefaultController" ∷ "URL" ∷ "URLSearchParams" ∷ "WebAssembly" ∷ "WebSocket" ∷ "WritableStream" ∷ "WritableStreamDefaultController" ∷ "WritableStreamDefaultWriter" ∷ "__dirname" ∷ "__filename" ∷ "atob" ∷ "btoa" ∷ "clearImmediate" ∷ "clearInterval" ∷ "clearTimeout" ∷ "console" ∷ "crypto" ∷ "exports" ∷ "fetch" ∷ "global" ∷ "localStorage" ∷ "module" ∷ "navigator" ∷ "performance" ∷ "process" ∷ "queueMicrotask" ∷ "require" ∷ "sessionStorage" ∷ "setImmediate" ∷ "setInterval" ∷ "setTimeout" ∷ "structuredClone" ∷ [])

-- What a module of CommonJS has (Modules/1.1.1)
unfoldable pub is_commonjs_name : List ℕ → Bool
is_commonjs_name text = among text ("exports" ∷ "module" ∷ "require" ∷ [])

-- What ECMA-262, 13th edition, has beside the built-in names (clause 19, B.2.1)
unfoldable pub is_es2022_name : List ℕ → Bool
is_es2022_name text = among text ("AggregateError" ∷ "FinalizationRegistry" ∷ "WeakRef" ∷ "escape" ∷ "unescape" ∷ [])

-- Mocha's interfaces BDD and TDD (its documentation, "Interfaces" and "Delayed root suite")
unfoldable pub is_mocha_name : List ℕ → Bool
is_mocha_name text = among text ("after" ∷ "afterEach" ∷ "before" ∷ "beforeEach" ∷ "context" ∷ "describe" ∷ "it" ∷ "mocha" ∷ "run" ∷ "setup" ∷ "specify" ∷ "suite" ∷ "suiteSetup" ∷ "suiteTeardown" ∷ "teardown" ∷ "test" ∷ "xcontext" ∷ "xdescribe" ∷ "xit" ∷ "xspecify" ∷ [])

-- Jest's globals (its documentation, "Globals", "The Jest object", "Expect")
unfoldable pub is_jest_name : List ℕ → Bool
is_jest_name text = among text ("afterAll" ∷ "afterEach" ∷ "beforeAll" ∷ "beforeEach" ∷ "describe" ∷ "expect" ∷ "fdescribe" ∷ "fit" ∷ "it" ∷ "jest" ∷ "test" ∷ "xdescribe" ∷ "xit" ∷ "xtest" ∷ [])
